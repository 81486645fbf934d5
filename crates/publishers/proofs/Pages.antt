-- What one store sealed another opens, if both have the key's set alike, and a key that one wrapped the other unwraps; one store kept throughout has a set as it was, unless it
-- was loaded anew.
-- Assumes nothing.
use mathlib.Core.Path.{◌≡◌, refl, sym, ap, ap₂, ◌∙◌}
use mathlib.Core.Bool.{Bool, true, false, ◌&&◌}
use mathlib.Core.Logic.{inl}
use mathlib.Core.List.{List, [], ◌∷◌}
use Prim.Native.Nat.{ℕ, ◌+◌, ◌*◌}
use native.Mathlib.Omega.{arith}
use borrow.Author.Tests.{eqb-false}
use lib.Dec.{eqb}
use lib.ListN.{length}
use Rattle.forms.specs.Refusals.{outcome}
use Rattle.forms.proofs.Booleans.{or_neither}
use Rattle.forms.proofs.Refusals.{unless_held, unless_four}
use Rattle.labyrinth.specs.declared.Expanded.{Expanded}
use Rattle.labyrinth.specs.Cipher.{Parts, parts_of}
use Rattle.labyrinth.specs.Keys.{E, U}
use Rattle.labyrinth.specs.Refusals.{legal, under_key, under_length, block_refusal, expand_refusal, expansion}
use Rattle.labyrinth.proofs.Undo.{Sound, U_E, E_U}
use Rattle.labyrinth.proofs.Refusals.{block_iff, under_zero, under_loaded}
use Rattle.labyrinth.proofs.Expansion.{expansion_number}
use Rattle.modes.specs.Cbc.{cbc_open}
use Rattle.modes.specs.Ctr.{ctr}
use Rattle.modes.specs.KeyWrap.{wrapped, authentic, unwrapped}
use Rattle.modes.specs.Refusals.{cbc_refusal, ctr_refusal, Sized, wrap_refusal, unwrap_refusal}
use Rattle.modes.proofs.Maps.{keeps_one, keeps_one_U}
use Rattle.modes.proofs.KeyWrap.{length_wrapped, length_unwrapped}
use Rattle.modes.proofs.Refusals.{wrap_number, wrap_taken, wrap_one, unwrap_number, unwrap_taken, unwrap_one}
use Rattle.modes.proofs.Again.{cbc_again, ctr_again, wrap_authentic, wrap_again, unwrap_again}
use Rattle.sets.specs.declared.Set.{Set}
use Rattle.sets.specs.declared.Store.{Store}
use Rattle.sets.specs.Sets.{set_in, substitution_in, row_in, parts_in, loaded, load_refusal, load, take}
use Rattle.sets.proofs.Sets.{set_in_zero, loaded_zero, loaded_sound, loaded_alike}
use Rattle.publishers.specs.Calls.{Call, loads, takes, uses, Answer, number, key, buffer, verdict, left, named, used, answer, after, after_all, renewed}
use Rattle.publishers.specs.Pages.{SameSet, KeptUnlessRenewed, SetsUndo, BlocksComeBackIn, CbcOpensAgainIn, CtrOpensAgainIn, KeysYieldIn, ExpandsIn}
use Rattle.publishers.proofs.Stores.{load_is, refused_load, load_leaves, take_sets, same_sets}

-- ---- one store kept throughout

after_load : (s : Store) (q j : ℕ) (v g : List ℕ) (i : ℕ) → (eqb j i && eqb (load_refusal s q j v g) 0) ≡ false → set_in (load s q j v g).store i ≡ set_in s i
after_load s q j v g i h = go (eqb j i) refl h
  where
    go : (a : Bool) → eqb j i ≡ a → (a && eqb (load_refusal s q j v g) 0) ≡ false → set_in (load s q j v g).store i ≡ set_in s i
    go true x e = ap (λ (t : Store). set_in t i) (refused_load s q j v g (λ z. eqb-false (load_refusal s q j v g) 0 e (sym (load_is s q j v g) ∙ z)))
    go false x e = (load_leaves s q j i v g (λ z. eqb-false j i x (sym z))).0

pub kept : (i : ℕ) (s : Store) (cs : List Call) → renewed i s cs ≡ false → set_in s i ≡ set_in (after_all s cs) i
unfolding renewed after_all after
kept i s [] e = refl
kept i s (loads q j v g ∷ cs) e =
    let k = or_neither (eqb j i && eqb (load_refusal s q j v g) 0) _ e in
    sym (after_load s q j v g i k.0) ∙ kept i (load s q j v g).store cs k.1
kept i s (takes q j ∷ cs) e = sym (same_sets (take s q j).store s i (take_sets s q j)) ∙ kept i (take s q j).store cs e
kept i s (uses q u ∷ cs) e = kept i s cs e

pub kept_unless_renewed : KeptUnlessRenewed
unfolding substitution_in row_in
kept_unless_renewed i s cs l e =
    let k = kept i s cs e in
    record {
      here = l;
      there = loaded_alike (after_all s cs) s i (sym k) ∙ l;
      substitution = ap (λ (v : Set). v.substitution) k;
      row = ap (λ (v : Set). v.row) k;
    }

-- ---- E and U by a loaded set

pub sets_undo : SetsUndo
sets_undo s i l n ws b w e h = (U_E (parts_in s i) (loaded_sound s i l) n ws b w e h, E_U (parts_in s i) (loaded_sound s i l) n ws b w e h)

-- ---- over two stores

-- set 0 is in any two the same
pub zero_same : (s t : Store) (i : ℕ) → i ≡ 0 → SameSet i s t
unfolding substitution_in row_in
zero_same s t i z =
    let e = set_in_zero s i z ∙ sym (set_in_zero t i z) in
    record { here = loaded_zero s i z; there = loaded_zero t i z; substitution = ap (λ (v : Set). v.substitution) e; row = ap (λ (v : Set). v.row) e }

pub same_parts : {i : ℕ} {s t : Store} → SameSet i s t → parts_in s i ≡ parts_in t i
unfolding parts_in
same_parts h = ap₂ parts_of h.substitution h.row

-- what an answer of 0 says: the operation's own number is 0, and the buffer holds the result
number_of : Answer → ℕ
number_of (number r) = r
number_of (key e) = e.number
number_of (buffer r bs) = r
number_of (verdict v) = v.number

bytes_of : Answer → List ℕ
bytes_of (number r) = []
bytes_of (key e) = []
bytes_of (buffer r bs) = bs
bytes_of (verdict v) = []

expanded_of : Expanded → Answer → Expanded
expanded_of d (number r) = d
expanded_of d (key e) = e
expanded_of d (buffer r bs) = d
expanded_of d (verdict v) = d

pub same_buffer : {r q : ℕ} {x y : List ℕ} → buffer r x ≡ buffer q y → (r ≡ q) × (x ≡ y)
unfolding number_of bytes_of
same_buffer e = (ap number_of e, ap bytes_of e)

answered : (n : ℕ) (is : Bool) (own : ℕ) (x before : List ℕ) {y : List ℕ} → left (under_key n is own) x before ≡ buffer 0 y → (own ≡ 0) × (x ≡ y)
answered n is own x before e =
    let z = same_buffer e in
    (under_zero n is own z.0, sym (ap (λ (r : ℕ). outcome r x before) z.0) ∙ z.1)

pub blocks_come_back : BlocksComeBackIn
unfolding answer used named
blocks_come_back s t k h w block b = (
  λ p q before between room opened e f.
      let a = answered n (loaded s i) (block_refusal n (length block) (length before)) _ before e in
      let d = answered n (loaded t i) (block_refusal n (length between) (length room)) _ room f in
      sym d.1 ∙ ap₂ (λ (m : Parts) (x : List ℕ). U m n ws x) (sym (same_parts h)) (sym a.1) ∙ (undone ((block_iff n (length block) (length before)).0 a.0).1).0,
  λ p q before between room opened e f.
      let a = answered n (loaded s i) (block_refusal n (length block) (length before)) _ before e in
      let d = answered n (loaded t i) (block_refusal n (length between) (length room)) _ room f in
      sym d.1 ∙ ap₂ (λ (m : Parts) (x : List ℕ). E m n ws x) (sym (same_parts h)) (sym a.1) ∙ (undone ((block_iff n (length block) (length before)).0 a.0).1).1,
)
  where
    n : ℕ
    n = k.n

    i : ℕ
    i = k.set

    ws : List ℕ
    ws = k.words

    undone : length block ≡ 16 * n → (U (parts_in s i) n ws (E (parts_in s i) n ws block) ≡ block) × (E (parts_in s i) n ws (U (parts_in s i) n ws block) ≡ block)
    undone l = sets_undo s i h.here n ws block w l b

pub cbc_opens_again : CbcOpensAgainIn
unfolding answer used named
cbc_opens_again s t k h w start page hs hp p q before between room opened e f =
    let n = k.n in
    let m = parts_in s k.set in
    let a = answered n (loaded s k.set) (cbc_refusal n (length start) (length page) (length before)) _ before e in
    let d = answered n (loaded t k.set) (cbc_refusal n (length start) (length between) (length room)) _ room f in
    sym d.1
    ∙ ap₂ (λ (m : Parts) (x : List ℕ). cbc_open (U m n k.words) (16 * n) start x) (sym (same_parts h)) (sym a.1)
    ∙ cbc_again m n k.words start page (length before) (loaded_sound s k.set h.here) w hs hp refl a.0

pub ctr_opens_again : CtrOpensAgainIn
unfolding answer used named
ctr_opens_again s t k h start at page p q before between room opened e f =
    let n = k.n in
    let a = answered n (loaded s k.set) (ctr_refusal n (length start) (length page) (length before)) _ before e in
    let d = answered n (loaded t k.set) (ctr_refusal n (length start) (length between) (length room)) _ room f in
    sym d.1
    ∙ ap₂ (λ (m : Parts) (x : List ℕ). ctr (E m n k.words) (16 * n) start at x) (sym (same_parts h)) (sym a.1)
    ∙ ctr_again (parts_in s k.set) n k.words start page (length before) at refl a.0

-- ---- keys over two stores

-- what gives an answer of 0
gives : (n : ℕ) (is : Bool) (own : ℕ) (x before : List ℕ) {y : List ℕ} → (legal n ≡ false → own ≡ 1) → is ≡ true → own ≡ 0 → x ≡ y → left (under_key n is own) x before ≡ buffer 0 y
gives n is own x before one l z e = ap₂ (λ (r : ℕ) (x : List ℕ). left r x before) (under_loaded n is own one l ∙ z) e

wrap_done : (n s d : ℕ) → n ≡ 1 → Sized 16 128 s → d ≡ s + 8 → wrap_refusal n s d ≡ 0
wrap_done n s d o z e = (unless_four (wrap_number n s d refl)).1 (inl o, o, z, e)

unwrap_done : (n s d : ℕ) (right : Bool) → n ≡ 1 → Sized 24 136 s → s ≡ d + 8 → right ≡ true → unwrap_refusal n s d right ≡ 0
unwrap_done n s d right o z e r =
    unless_held r (unless_held e (unless_held z (unless_held o (unless_held (inl o) (unwrap_number n s d right refl (λ h. h, λ h. h))))))

pub keys_yield : KeysYieldIn
unfolding answer used named
keys_yield s t k h w given b = (
  λ p q before between room e l.
      let a = answered n (loaded s i) (wrap_refusal n (length given) (length before)) _ before e in
      let taken = wrap_taken n (length given) (length before) refl a.0 in
      let long = ap length (sym a.1) ∙ length_wrapped (E m n ws) (keeps_one m n ws taken.one) given (omega (arith, taken.low_end)) in
      let right = ap₂ (λ (m : Parts) (x : List ℕ). authentic (U m n ws) x) same (sym a.1) ∙ wrap_authentic m n ws given (length before) sound w b refl a.0 in
      let back = ap₂ (λ (m : Parts) (x : List ℕ). unwrapped (U m n ws) x) same (sym a.1) ∙ wrap_again m n ws given (length before) sound w b refl a.0 in
      gives n (loaded t i) (unwrap_refusal n (length between) (length room) (authentic (U (parts_in t i) n ws) between)) _ room (unwrap_one n (length between) (length room) _) h.there
      (unwrap_done n (length between) (length room) _ taken.one (omega (arith, taken.whole), omega (arith, taken.low_end), omega (arith, taken.top_end)) (omega arith) right) back,
  λ p q before between room e l.
      let a = answered n (loaded s i) (unwrap_refusal n (length given) (length before) (authentic (U m n ws) given)) _ before e in
      let taken = (unwrap_taken n (length given) (length before) _ refl a.0).0 in
      let long = ap length (sym a.1) ∙ length_unwrapped (U m n ws) (keeps_one_U m n ws taken.one) given (omega (arith, taken.low_end)) in
      let back = ap₂ (λ (m : Parts) (x : List ℕ). wrapped (E m n ws) x) same (sym a.1) ∙ unwrap_again m n ws given (length before) sound w b refl a.0 in
      gives n (loaded t i) (wrap_refusal n (length between) (length room)) _ room (wrap_one n (length between) (length room)) h.there
      (wrap_done n (length between) (length room) taken.one (omega (arith, taken.whole), omega (arith, taken.low_end), omega (arith, taken.top_end)) (omega (arith, taken.low_end))) back,
)
  where
    n : ℕ
    n = k.n

    i : ℕ
    i = k.set

    ws : List ℕ
    ws = k.words

    m : Parts
    m = parts_in s i

    sound : Sound m
    sound = loaded_sound s i h.here

    same : parts_in t i ≡ m
    same = sym (same_parts h)

pub expands_in : ExpandsIn
unfolding answer used named expanded_of expansion
expands_in x s i h p n l secret e f z =
    let r = under_length n l (loaded x i) (expand_refusal n l (length secret)) in
    let g : expansion (parts_in x i).SM i n l secret r ≡ e = ap (expanded_of e) f in
    let o : r ≡ 0 = sym (expansion_number (parts_in x i).SM i n l secret r) ∙ ap (λ (e : Expanded). e.number) g ∙ z in
    ap (λ (e : Expanded). e.key) (sym g)
    ∙ ap₂ (λ (m : Parts) (r : ℕ). (expansion m.SM i n l secret r).key) (same_parts h) o
