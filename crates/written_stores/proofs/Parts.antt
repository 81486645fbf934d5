-- Parts of a store that are written one after another.
-- Assumes nothing.
use mathlib.Core.Path.{◌≡◌, refl, sym, ap, ap₂, subst, ◌∙◌}
use mathlib.Core.List.{List, [], ◌++◌, append-nil, append_assoc}
use Prim.Native.Nat.{ℕ, zero, suc, ◌+◌, ◌-◌, ◌*◌, ◌≤◌}
use native.Mathlib.Nat.{zero-add}
use native.Mathlib.Numerals.{add-one}
use native.Mathlib.Omega.{arith}
use lib.Dec.{eqb}
use lib.ListN.{length, get_or, take, drop, length-append, length-drop, drop_of_length-le}
use lib.Seq.{take_all, drop-drop}
use Rattle.forms.specs.Lists.{tabulate, when}
use Rattle.forms.specs.Words.{byte, bytes}
use Rattle.forms.proofs.Lists.{length_tabulate}
use Rattle.forms.proofs.Buffers.{put, put_put, put_none}
use Rattle.forms.proofs.Parts.{part_to_end}
use Rattle.sets.specs.declared.Set.{Set}
use Rattle.sets.specs.Sets.{nowhere}
use Rattle.sets.specs.declared.Store.{Store}
use Rattle.records.specs.Records.{set_bytes, store_bytes}
use Rattle.forms.proofs.Whole.{bytes_two, written}

-- what stands from a place on, lent to the end
to_end : (xs : List ℕ) (at : ℕ) → take (length xs - at) (drop at xs) ≡ drop at xs
to_end xs at = take_all (length xs - at) (drop at xs) (omega (arith, length-drop at xs))

-- a string copied to the front of what is left from a place on
pub put_there : (d s : List ℕ) (at : ℕ) {ys : List ℕ} → at + length s ≤ length d → ys ≡ take (length (take (length d - at) (drop at d))) s ++ drop (length s) (take (length d - at) (drop at d))
    → take at d ++ (ys ++ drop (length d - at) (drop at d)) ≡ put at (length s) s d
put_there d s at {ys} h e =
    part_to_end d ys at
    ∙ ap (λ (x : List ℕ). take at d ++ x)
    (e ∙ ap (λ (x : List ℕ). take (length x) s ++ drop (length s) x) (to_end d at) ∙ ap₂ ◌++◌ (take_all (length (drop at d)) s (omega (arith, length-drop at d))) (drop-drop (length s) at d))

-- a substitution, and a row behind it
pub put_both : (d s g : List ℕ) (at : ℕ) {d₁ d₂ : List ℕ} → length s ≡ 256 → length g ≡ 8 → at + 264 ≤ length d
    → d₁ ≡ put at (length s) s d → d₂ ≡ put (at + 256) (length g) g d₁ → d₂ ≡ put at 264 (s ++ g) d
put_both d s g at {d₁} es eg h p q =
    q ∙ ap (λ (k : ℕ). put (at + 256) k g d₁) eg
    ∙ ap (put (at + 256) 8 g) (p ∙ ap (λ (k : ℕ). put at k s d) es)
    ∙ put_put d s at 256 es (omega arith) g 8

-- the sets below i
unfoldable pub sets_bytes : ℕ → List Set → List ℕ
sets_bytes zero vs = []
sets_bytes (suc i) vs = sets_bytes i vs ++ set_bytes (get_or vs i nowhere)

-- they stand at the front
pub record Filled (vs : List Set) (d₀ : List ℕ) (i : ℕ) (d : List ℕ) : Type 0 where
  pub long : length (sets_bytes i vs) ≡ 264 * i
  pub is : d ≡ put 0 (264 * i) (sets_bytes i vs) d₀

module _ (vs : List Set) (d₀ : List ℕ) where
  pub filled_none : Filled vs d₀ 0 d₀
  unfolding sets_bytes
  filled_none = record { long = refl; is = put_none d₀ 0 }

  pub filled_more : (i : ℕ) {d d₁ : List ℕ} → 264 * i + 264 ≤ length d₀ → Filled vs d₀ i d → length (set_bytes (get_or vs i nowhere)) ≡ 264
      → d₁ ≡ put (264 * i) 264 (set_bytes (get_or vs i nowhere)) d → Filled vs d₀ (i + 1) d₁
  unfolding sets_bytes
  filled_more i {d} h f l e =
      let q : 264 * i + 264 ≡ 264 * (i + 1) = omega arith in
      rw (add-one) (record {
        long = length-append (sets_bytes i vs) (set_bytes (get_or vs i nowhere)) ∙ ap₂ ◌+◌ f.long l ∙ omega arith;
        is = e ∙ ap (put (264 * i) 264 (set_bytes (get_or vs i nowhere))) f.is
            ∙ ap (λ (m : ℕ). put m 264 (set_bytes (get_or vs i nowhere)) (put 0 (264 * i) (sets_bytes i vs) d₀)) (sym (zero-add (264 * i)))
            ∙ put_put d₀ (sets_bytes i vs) 0 (264 * i) f.long (omega arith) (set_bytes (get_or vs i nowhere)) 264
            ∙ ap (λ (m : ℕ). put 0 m (sets_bytes i vs ++ set_bytes (get_or vs i nowhere)) d₀) (q ∙ ap (λ (m : ℕ). 264 * m) (add-one i));
      })

-- and then what is taken
six : (a b c d e f : List ℕ) → ((((a ++ b) ++ c) ++ d) ++ e) ++ f ≡ a ++ (b ++ (c ++ (d ++ (e ++ f))))
six a b c d e f = simp append_assoc refl

pub filled_store : (st : Store) (d₀ : List ℕ) {i : ℕ} {d d₁ d₂ : List ℕ} → length d₀ ≡ 1072 → i ≡ 4 → Filled st.sets d₀ i d
    → d₁ ≡ put 1056 8 (tabulate 8 (byte (get_or st.taken 0 0))) d → d₂ ≡ put 1064 8 (tabulate 8 (byte (get_or st.taken 1 0))) d₁
    → d₂ ≡ when (eqb (length d₀) 1072) (store_bytes st) d₀
unfolding sets_bytes store_bytes
filled_store st d₀ {i} {d} {d₁} {d₂} h e f p q = written d₀ _ 1072 h (all ∙ in_order)
  where
    vs : List Set
    vs = st.sets

    S : ℕ → List ℕ
    S k = set_bytes (get_or vs k nowhere)

    t : ℕ → List ℕ
    t k = tabulate 8 (byte (get_or st.taken k 0))

    four : Filled vs d₀ 4 d
    four = subst (λ m. Filled vs d₀ m d) e f

    five : length (sets_bytes 4 vs ++ t 0) ≡ 1064
    five = length-append (sets_bytes 4 vs) (t 0) ∙ ap₂ ◌+◌ four.long (length_tabulate 8 _)

    all : d₂ ≡ ((sets_bytes 4 vs ++ t 0) ++ t 1) ++ drop 1072 d₀
    all =
        q ∙ ap (put 1064 8 (t 1)) (p ∙ ap (put 1056 8 (t 0)) four.is ∙ put_put d₀ (sets_bytes 4 vs) 0 1056 four.long (omega arith) (t 0) 8)
        ∙ put_put d₀ (sets_bytes 4 vs ++ t 0) 0 1064 five (omega arith) (t 1) 8

    in_order : ((sets_bytes 4 vs ++ t 0) ++ t 1) ++ drop 1072 d₀ ≡ S 0 ++ (S 1 ++ (S 2 ++ (S 3 ++ bytes 2 st.taken)))
    in_order =
        ap (λ (x : List ℕ). ((sets_bytes 4 vs ++ t 0) ++ t 1) ++ x) (drop_of_length-le d₀ {i = 1072} (omega arith))
        ∙ append-nil ((sets_bytes 4 vs ++ t 0) ++ t 1)
        ∙ six (S 0) (S 1) (S 2) (S 3) (t 0) (t 1)
        ∙ ap (λ (x : List ℕ). S 0 ++ (S 1 ++ (S 2 ++ (S 3 ++ x)))) (sym (bytes_two st.taken))
