-- Nothing of an entry is lost at the boundary: one that is written and read back is itself, and so are bytes that are read and written back. Entries one
-- after another: what stands where, and one of them set.
-- Assumes nothing.
use mathlib.Core.Path.{◌≡◌, sym, ap, ap₂, ◌∙◌}
use mathlib.Core.List.{List, [], ◌∷◌, ◌++◌, append_assoc}
use Prim.Native.Nat.{ℕ, zero, suc, ◌+◌, ◌*◌, ◌^◌, ◌<◌}
use native.Mathlib.Nat.{add_assoc, zero-add, mod-eq_of_lt}
use native.Mathlib.Omega.{arith}
use lib.ListN.{length, get_or, set, take, drop, length-append, get_or-append}
use lib.Seq.{get_or-append-add, take-append-add, drop-append-add, drop_at}
use Rattle.forms.specs.Lists.{tabulate, words_from}
use Rattle.forms.specs.Words.{byte, join}
use Rattle.forms.proofs.Lists.{get_d_tabulate, length_tabulate, tabulate_cong, tabulated}
use Rattle.forms.proofs.Words.{byte_join, join_byte, join_cong}
use Rattle.forms.proofs.Bytes.{Bytes}
use Rattle.forms.proofs.Buffers.{put}
use Rattle.forms.proofs.Whole.{read_whole}
use Rattle.registers.specs.declared.Entry.{Entry}
use Rattle.registers.specs.Registers.{blank}
use Rattle.register_layout.specs.Layout.{two_byte_number, two_bytes, entry_in, entry_bytes, entries_bytes}

-- ---- an entry

abbrev pub made : ℕ → ℕ → List ℕ → Entry
made number replaces key = record { number = number; replaces = replaces; key = key }

pub same_entry : {n n' r r' : ℕ} {k k' : List ℕ} → n ≡ n' → r ≡ r' → k ≡ k' → made n r k ≡ made n' r' k'
same_entry p q r = rw (p, q, r)

pub length_entry_bytes : (e : Entry) → length e.key ≡ 40 → length (entry_bytes e) ≡ 44
unfolding entry_bytes two_bytes tabulate
length_entry_bytes e h = ap (λ (k : ℕ). suc (suc (suc (suc k)))) h

-- it is known by its 44 bytes, wherever they stand
pub entry_like : (b c : List ℕ) (at to : ℕ) → ((j : ℕ) → j < 44 → get_or b (at + j) 0 ≡ get_or c (to + j) 0) → entry_in b at ≡ entry_in c to
unfolding entry_in two_byte_number words_from
entry_like b c at to h =
    same_entry (join_cong 2 _ _ (λ k l. h k (omega arith))) (join_cong 2 _ _ (λ k l. there 2 k (omega arith))) (tabulate_cong 40 _ _ (λ k l. there 4 k (omega arith)))
  where
    there : (m k : ℕ) → m + k < 44 → get_or b (at + m + k) 0 ≡ get_or c (to + m + k) 0
    there m k l = ap (λ (i : ℕ). get_or b i 0) (add_assoc at m k) ∙ h (m + k) l ∙ ap (λ (i : ℕ). get_or c i 0) (sym (add_assoc to m k))

-- two numbers of 16 bits, and a key of 40 bytes
pub record Fitting (e : Entry) : Type 0 where
  pub number : e.number < 2 ^ 16
  pub replaces : e.replaces < 2 ^ 16
  pub key : length e.key ≡ 40

pub entry_in_entry_bytes : (e : Entry) → Fitting e → entry_in (entry_bytes e) 0 ≡ e
unfolding entry_in entry_bytes two_bytes two_byte_number words_from tabulate join
entry_in_entry_bytes e f =
    same_entry (join_byte 2 e.number ∙ mod-eq_of_lt f.number) (join_byte 2 e.replaces ∙ mod-eq_of_lt f.replaces) (read_whole e.key 40 f.key)

-- byte k of a number that stands at a place
number_byte : (b : List ℕ) → Bytes b → (at k : ℕ) → k < 2 → byte (two_byte_number b at) k ≡ get_or b (at + k) 0
unfolding two_byte_number
number_byte b small at k l = byte_join 2 (λ i. get_or b (at + i) 0) (λ i. small (at + i)) k l

pub entry_bytes_entry_in : (b : List ℕ) (at : ℕ) → Bytes b → entry_bytes (entry_in b at) ≡ words_from 44 at b
unfolding entry_in entry_bytes two_bytes words_from tabulate
entry_bytes_entry_in b at small =
    tabulated 44 (λ i. get_or b (at + i) 0) 0 (entry_bytes (entry_in b at)) (length_entry_bytes (entry_in b at) (length_tabulate 40 (λ i. get_or b (at + 4 + i) 0))) each
  where
    each : (j : ℕ) → j < 44 → get_or (entry_bytes (entry_in b at)) j 0 ≡ get_or b (at + j) 0
    each zero l = number_byte b small at 0 (omega arith)
    each (suc zero) l = number_byte b small at 1 (omega arith)
    each (suc (suc zero)) l = number_byte b small (at + 2) 0 (omega arith) ∙ ap (λ (i : ℕ). get_or b i 0) (add_assoc at 2 0)
    each (suc (suc (suc zero))) l = number_byte b small (at + 2) 1 (omega arith) ∙ ap (λ (i : ℕ). get_or b i 0) (add_assoc at 2 1)
    each (suc (suc (suc (suc j)))) l =
        let e : at + 4 + j ≡ at + suc (suc (suc (suc j))) = omega arith in
        get_d_tabulate 40 (λ i. get_or b (at + 4 + i) 0) 0 j (omega arith) ∙ ap (λ (i : ℕ). get_or b i 0) e

-- ---- entries one after another

-- bytes put behind others
pub put_behind : (a d xs : List ℕ) (at m : ℕ) → a ++ put at m xs d ≡ put (length a + at) m xs (a ++ d)
put_behind a d xs at m =
    sym (append_assoc a (take at d) (xs ++ drop (at + m) d))
    ∙ ap₂ (λ (x y : List ℕ). x ++ (xs ++ y)) (sym (take-append-add a d at))
    (sym (drop-append-add a d (at + m)) ∙ ap (λ (k : ℕ). drop k (a ++ d)) (sym (add_assoc (length a) at m)))

-- every key has 40 bytes
pub record Keys (es : List Entry) : Type 0 where
  pub key : (i : ℕ) → i < length es → length (get_or es i blank).key ≡ 40

module _ {e : Entry} {es : List Entry} (h : Keys (e ∷ es)) where
  first : length (entry_bytes e) ≡ 44
  first = length_entry_bytes e (h.key 0 (omega arith))

  later : Keys es
  later = record { key = λ i l. h.key (suc i) (omega arith) }

pub length_entries_bytes : (es : List Entry) → Keys es → length (entries_bytes es) ≡ 44 * length es
unfolding entries_bytes
length_entries_bytes [] h = omega arith
length_entries_bytes (e ∷ es) h = length-append (entry_bytes e) (entries_bytes es) ∙ ap₂ ◌+◌ (first h) (length_entries_bytes es (later h)) ∙ omega arith

-- byte j of entry i
pub entry_there : (es : List Entry) → Keys es → (i j : ℕ) → i < length es → j < 44
    → get_or (entries_bytes es) (44 * i + j) 0 ≡ get_or (entry_bytes (get_or es i blank)) j 0
unfolding entries_bytes
entry_there [] h i j l m = let z : ⊥ = omega arith in absurd z
entry_there (e ∷ es) h zero j l m =
    ap (λ (k : ℕ). get_or (entry_bytes e ++ entries_bytes es) k 0) (zero-add j) ∙ get_or-append (entry_bytes e) (entries_bytes es) 0 j (omega (arith, first h))
entry_there (e ∷ es) h (suc i) j l m =
    let q : 44 * suc i + j ≡ length (entry_bytes e) + (44 * i + j) = omega (arith, first h) in
    ap (λ (k : ℕ). get_or (entry_bytes e ++ entries_bytes es) k 0) q
    ∙ get_or-append-add (entry_bytes e) (entries_bytes es) (44 * i + j) 0 ∙ entry_there es (later h) i j (omega arith) m

-- entry n set: its bytes are put
pub entry_set : (es : List Entry) (n : ℕ) (e : Entry) → Keys es → n < length es → entries_bytes (set es n e) ≡ put (44 * n) 44 (entry_bytes e) (entries_bytes es)
unfolding entries_bytes
entry_set [] n e h l = let z : ⊥ = omega arith in absurd z
entry_set (f ∷ es) zero e h l = ap (λ (x : List ℕ). entry_bytes e ++ x) (sym (drop_at (entry_bytes f) (entries_bytes es) 44 (first h)))
entry_set (f ∷ es) (suc n) e h l =
    let q : length (entry_bytes f) + 44 * n ≡ 44 * suc n = omega (arith, first h) in
    ap (λ (x : List ℕ). entry_bytes f ++ x) (entry_set es n e (later h) (omega arith))
    ∙ put_behind (entry_bytes f) (entries_bytes es) (entry_bytes e) (44 * n) 44
    ∙ ap (λ (k : ℕ). put k 44 (entry_bytes e) (entry_bytes f ++ entries_bytes es)) q
