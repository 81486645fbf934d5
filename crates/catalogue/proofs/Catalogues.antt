-- What the catalogue reader answers, as the code comes to it; and that it sees no more of a record than the places shown.
-- Assumes nothing.
use mathlib.Core.Path.{◌≡◌, refl, sym, ap, ap₂, ◌∙◌}
use mathlib.Core.Bool.{Bool, true, false, ◌&&◌, false≢true}
use mathlib.Core.List.{List, []}
use mathlib.Core.Logic.{inl, inr}
use Prim.Native.Nat.{ℕ, suc, ◌+◌, ◌-◌, ◌*◌, ◌≤◌, ◌<◌}
use native.Mathlib.Nat.{zero-add}
use native.Mathlib.Omega.{arith}
use lib.Dec.{eqb}
use lib.ListN.{length, take, drop, length-drop}
use lib.Seq.{drop-drop}
use Rattle.forms.specs.Lists.{when}
use Rattle.forms.specs.Refusals.{Unless}
use Rattle.forms.proofs.Booleans.{and_both, by_test}
use Rattle.catalogue.specs.declared.Entry.{Entry}
use Rattle.pages.specs.Pages.{begins, four_byte_number, times15, behind10, behind11, behind12, blocks, behind15, headed, ended, is_record, parts, Alike}
use Rattle.catalogue.specs.Catalogue.{entry, title_part}
use Rattle.pages.proofs.Commands.{begins_iff, times_most, times_yes, times_no}
use Rattle.pages.proofs.Layouts.{record_title, record_length_lem}
use Rattle.pages.proofs.Places.{place11, place12, place13, place15, is_record_like, blocks_like, title_like, day_like, part_like}

-- ---- counting

-- so many commands 15 from a place on were counted, and those to come make up the whole
pub record Counting (bytes : List ℕ) (from count : ℕ) : Type 0 where
  pub few : count ≤ 4096
  pub within : from + 17 * count ≤ length bytes
  pub up : count + times15 (4096 - count) (drop (from + 17 * count) bytes) ≡ times15 4096 (drop from bytes)

module _ (bytes : List ℕ) (from : ℕ) where
  pub counting_first : from ≤ length bytes → Counting bytes from 0
  counting_first h =
      let e : from + 17 * 0 ≡ from = omega arith in
      record { few = omega arith; within = omega arith; up = ap (λ (k : ℕ). 0 + times15 4096 (drop k bytes)) e ∙ zero-add (times15 4096 (drop from bytes)) }

  module _ (count : ℕ) (w : Counting bytes from count) where
    pub counting_next : count < 4096 → begins 0x15 16 (drop (from + 17 * count) bytes) ≡ true → Counting bytes from (count + 1)
    counting_next h e =
        let at = from + 17 * count in
        let k : 4096 - count ≡ suc (4096 - (count + 1)) = omega arith in
        let n : at + 17 ≡ from + 17 * (count + 1) = omega arith in
        let x = times15 (4096 - (count + 1)) (drop (from + 17 * (count + 1)) bytes) in
        let t : times15 (4096 - count) (drop at bytes) ≡ suc x =
        ap (λ (m : ℕ). times15 m (drop at bytes)) k ∙ times_yes (4096 - (count + 1)) (drop at bytes) e
        ∙ ap (λ (y : List ℕ). suc (times15 (4096 - (count + 1)) y)) (drop-drop 17 at bytes ∙ ap (λ (m : ℕ). drop m bytes) n) in
        let u = w.up in
        let v = w.within in
        record {
          few = omega arith;
          within = omega (arith, ((begins_iff 0x15 16 (drop at bytes)).0 e).0, length-drop at bytes);
          up = omega arith;
        }

    pub counting_other : begins 0x15 16 (drop (from + 17 * count) bytes) ≡ false → count ≡ times15 4096 (drop from bytes)
    counting_other e = let u = w.up in omega (arith, times_no (4096 - count) (drop (from + 17 * count) bytes) e)

    pub counting_all : 4096 ≤ count → count ≡ times15 4096 (drop from bytes)
    counting_all h =
        let u = w.up in
        let f = w.few in
        let k : 4096 - count ≡ 0 = omega arith in
        omega (arith, times_most (4096 - count) (drop (from + 17 * count) bytes))

-- ---- the rules, as the code tests them

module _ (r : List ℕ) where
  pub headed_first : begins 0x10 4 (drop 0 r) ≡ false → false ≡ headed r
  unfolding headed
  headed_first e = sym (ap (λ (b : Bool). b && (begins 0x11 4 (behind10 r) && (begins 0x12 32 (behind11 r) && begins 0x13 16 (behind12 r)))) e)

  and_no : (a b : Bool) → b ≡ false → (a && b) ≡ false
  and_no true b e = e
  and_no false b e = refl

  pub headed_second : begins 0x11 4 (drop 5 r) ≡ false → false ≡ headed r
  unfolding headed
  headed_second e = sym (and_no (begins 0x10 4 r) _ (ap (λ (b : Bool). b && (begins 0x12 32 (behind11 r) && begins 0x13 16 (behind12 r))) e))

  pub headed_third : begins 0x12 32 (drop 10 r) ≡ false → false ≡ headed r
  unfolding headed
  headed_third e =
      sym (and_no (begins 0x10 4 r) _ (and_no (begins 0x11 4 (behind10 r)) _ (ap (λ (b : Bool). b && begins 0x13 16 (behind12 r)) (ap (begins 0x12 32) (place11 r) ∙ e))))

  pub headed_all : begins 0x10 4 (drop 0 r) ≡ true → begins 0x11 4 (drop 5 r) ≡ true → begins 0x12 32 (drop 10 r) ≡ true → begins 0x13 16 (drop 43 r) ≡ headed r
  unfolding headed
  headed_all e f g =
      sym (ap₂ (λ (a b : Bool). a && (b && (begins 0x12 32 (behind11 r) && begins 0x13 16 (behind12 r)))) e f
      ∙ ap₂ ◌&&◌ (ap (begins 0x12 32) (place11 r) ∙ g) (ap (begins 0x13 16) (place12 r)))

  pub ended_other : (at : ℕ) → begins 0x1F 16 (drop at r) ≡ false → false ≡ ended (drop at r)
  unfolding ended
  ended_other at e = sym (ap (λ (b : Bool). b && eqb (length (drop at r)) 17) e)

  pub ended_there : (at : ℕ) → begins 0x1F 16 (drop at r) ≡ true → eqb (length r - at) 17 ≡ ended (drop at r)
  unfolding ended
  ended_there at e = sym (ap₂ (λ (b : Bool) (n : ℕ). b && eqb n 17) e (length-drop at r))

  -- the commands before the blocks are 60 bytes
  pub headed_long : headed r ≡ true → 60 ≤ length r
  unfolding headed
  headed_long e =
      let a = and_both (begins 0x10 4 r) _ e in
      let b = and_both (begins 0x11 4 (behind10 r)) _ a.1 in
      let c = and_both (begins 0x12 32 (behind11 r)) _ b.1 in
      let d = ((begins_iff 0x13 16 (behind12 r)).0 c.1).0 in
      omega (arith, ap length (place12 r) ∙ length-drop 43 r)

  abbrev refusal : Entry
  refusal = record { number = 19; page = 0; day = 0; blocks = 0 }

  pub entry_other : is_record r ≡ false → refusal ≡ entry r
  unfolding entry
  entry_other e = rw e

  pub entry_unheaded : headed r ≡ false → refusal ≡ entry r
  unfolding is_record
  entry_unheaded e = entry_other (ap (λ (b : Bool). b && ended (behind15 r)) e)

  -- the blocks as the code counts them
  module _ {k : ℕ} (e : k ≡ times15 4096 (drop 60 r)) where
    counted : blocks r ≡ k
    unfolding blocks
    counted = ap (times15 4096) (place13 r) ∙ sym e

    behind_counted : behind15 r ≡ drop (60 + 17 * k) r
    behind_counted = place15 r ∙ ap (λ (n : ℕ). drop (60 + 17 * n) r) counted

    pub entry_unended : ended (drop (60 + 17 * k) r) ≡ false → refusal ≡ entry r
    unfolding is_record
    entry_unended f = entry_other (and_no (headed r) (ended (behind15 r)) (ap ended behind_counted ∙ f))

    pub entry_record : headed r ≡ true → ended (drop (60 + 17 * k) r) ≡ true
        → record { number = 0; page = four_byte_number (take 4 (drop 1 r)); day = four_byte_number (take 4 (drop 6 r)); blocks = k } ≡ entry r
    unfolding is_record entry parts
    entry_record h f =
        rw (h, ap ended behind_counted ∙ f, counted)
        (ap (λ (x : List ℕ). record { number = 0; page = four_byte_number (take 4 (drop 1 r)); day = four_byte_number (take 4 x); blocks = k }) (sym (drop-drop 1 5 r)))

  -- the title, by the answer's number
  pub entry_zero : (entry r).number ≡ 0 → is_record r ≡ true
  unfolding entry
  entry_zero e =
      by_test (is_record r) (λ t. t)
      (λ f. let z : ◌≡◌ {A = ℕ} 19 0 = sym (ap (λ (b : Bool). (when b (record { number = 0; page = (parts r).number; day = (parts r).day; blocks = blocks r }) refusal).number) f) ∙ e in let n : ⊥ = omega arith in absurd n)

  pub title_none : ((entry r).number ≡ 0 → ⊥) → [] ≡ title_part r
  unfolding title_part entry
  title_none h = by_test (is_record r) (λ t. absurd (h (rw t))) (λ f. rw f)

  pub title_there : (entry r).number ≡ 0 → take 32 (drop 11 r) ≡ title_part r
  unfolding title_part
  title_there e = rw (entry_zero e) (sym (record_title r (entry_zero e)))

  pub title_long : (entry r).number ≡ 0 → 43 ≤ length r
  title_long e = omega (arith, record_length_lem r (entry_zero e))

-- ---- what it answers of a record, and of any other bytes

module _ (r : List ℕ) (e : is_record r ≡ true) where
  pub entry_yes : entry r ≡ record { number = 0; page = (parts r).number; day = (parts r).day; blocks = blocks r }
  unfolding entry
  entry_yes = rw e

  pub title_yes : title_part r ≡ (parts r).title
  unfolding title_part
  title_yes = rw e

module _ (r : List ℕ) (e : is_record r ≡ false) where
  pub entry_no : entry r ≡ record { number = 19; page = 0; day = 0; blocks = 0 }
  unfolding entry
  entry_no = rw e

  pub title_no : title_part r ≡ []
  unfolding title_part
  title_no = rw e

module _ (r : List ℕ) where
  pub entry_none : ((entry r).number ≡ 0 → ⊥) → is_record r ≡ false
  entry_none h = by_test (is_record r) (λ t. absurd (h (ap (λ (a : Entry). a.number) (entry_yes r t)))) (λ f. f)

  pub entry_blocks : (entry r).number ≡ 0 → (entry r).blocks ≡ blocks r
  entry_blocks z = ap (λ (a : Entry). a.blocks) (entry_yes r (entry_zero r z))

-- its number: 19 unless it is a record, else 0
pub catalogue_number : (r : List ℕ) {a : ℕ} → a ≡ (entry r).number → Unless (is_record r ≡ true) (a ≡ 19) (a ≡ 0)
catalogue_number r e =
    by_test (is_record r) (λ t. inr (t, e ∙ ap (λ (a : Entry). a.number) (entry_yes r t)))
    (λ f. inl (λ t. false≢true (sym f ∙ t), e ∙ ap (λ (a : Entry). a.number) (entry_no r f)))

-- ---- the same to the catalogue reader

module _ (r s : List ℕ) (h : Alike r s) where
  -- all answers are equal, a refusal too
  pub entry_like : entry r ≡ entry s
  unfolding entry parts
  entry_like =
      ap₂ (λ (b : Bool) (k : ℕ). when b (record { number = 0; page = (parts r).number; day = (parts r).day; blocks = k }) (record { number = 19; page = 0; day = 0; blocks = 0 })) (is_record_like r s h) (blocks_like r s h)
      ∙ ap₂ (λ (x y : List ℕ). when (is_record s) (record { number = 0; page = four_byte_number x; day = four_byte_number y; blocks = blocks s }) (record { number = 19; page = 0; day = 0; blocks = 0 }))
      (part_like r s h 1 4 (omega arith)) (day_like r s h)

  pub title_part_like : title_part r ≡ title_part s
  unfolding title_part
  title_part_like = ap₂ (λ (b : Bool) (x : List ℕ). when b x []) (is_record_like r s h) (title_like r s h)
