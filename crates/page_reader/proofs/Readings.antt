-- The parts of a record where the keyed reader finds them, and what its calls make of them.
-- Assumes nothing.
use mathlib.Core.Path.{◌≡◌, refl, sym, ap, ap₂, ◌∙◌}
use mathlib.Core.Bool.{true}
use mathlib.Core.Logic.{inl}
use mathlib.Core.List.{List, [], append-nil}
use Prim.Native.Nat.{ℕ, ◌+◌, ◌-◌, ◌*◌, ◌/◌, ◌%◌}
use native.Mathlib.Omega.{arith}
use borrow.Author.Tests.{eq-eqb}
use lib.Dec.{eqb}
use lib.ListN.{length, take, drop, length-drop}
use lib.Seq.{take_all, take_at, length-take-le}
use Rattle.forms.specs.Strings.{same}
use Rattle.forms.specs.Refusals.{unless, outcome}
use Rattle.forms.proofs.Bytes.{Bytes}
use Rattle.labyrinth.specs.declared.WorkingKey.{WorkingKey}
use Rattle.labyrinth.specs.Keys.{E, U}
use Rattle.labyrinth.specs.Refusals.{under_key}
use Rattle.labyrinth.proofs.Refusals.{under_loaded}
use Rattle.sets.specs.declared.Store.{Store}
use Rattle.sets.specs.Sets.{loaded, parts_in}
use Rattle.modes.specs.Cbc.{cbc_open}
use Rattle.modes.specs.Cmac.{tag, valid}
use Rattle.modes.specs.Refusals.{cbc_refusal, cmac_refusal}
use Rattle.modes.proofs.Refusals.{cbc_iff, cbc_one, cmac_iff, cmac_one}
use Rattle.cmac.specs.declared.Verified.{Verified}
use Rattle.cmac.specs.Verification.{verification}
use Rattle.pages.specs.Pages.{sealed_commands, sealed_operands, behind13, front, blocks, is_record, parts, tagged, body}
use Rattle.pages.proofs.Commands.{times_within, length_sealed_commands, length_sealed_operands, operands_commands, commands_operands}
use Rattle.pages.proofs.Layouts.{record_length_lem, record_front}
use Rattle.pages.proofs.Places.{place13}
use Rattle.pages.proofs.Cuts.{record_start, record_tag}
use Rattle.keyed_pages.specs.Keyed.{open_under, tag_under, opened}

-- ---- a record

-- what the code takes for its commands 15, and for its tag
abbrev pub commands : List ℕ → List ℕ
commands r = take (length r - 17 - 60) (drop 60 r)

abbrev pub given : List ℕ → List ℕ
given r = take (length r - (length r - 17 + 1)) (drop (length r - 17 + 1) r)

module _ (r : List ℕ) (e : is_record r ≡ true) where
  commands_length : length (commands r) ≡ 17 * blocks r
  commands_length =
      length-take-le (length r - 17 - 60) (drop 60 r) (omega (arith, length-drop 60 r)) ∙ omega (arith, record_length_lem r e)

  -- its sealed blocks are the operands of those commands
  commands_sealed : sealed_operands (length (commands r) / 17) (commands r) ≡ (parts r).sealed
  unfolding parts blocks
  commands_sealed =
      let m : ℕ = blocks r in
      let s : List ℕ = sealed_operands m (behind13 r) in
      let count : length (commands r) / 17 ≡ m = omega (arith, commands_length) in
      let long : length s ≡ 16 * m = length_sealed_operands m (behind13 r) (times_within 4096 (behind13 r)) in
      let stretch : length r - 17 - 60 ≡ 17 * m = omega (arith, record_length_lem r e) in
      let these : commands r ≡ sealed_commands m s =
      ap₂ (λ (k : ℕ) (x : List ℕ). take k x) stretch (sym (place13 r) ∙ commands_operands m 4096 (behind13 r) (omega arith))
      ∙ take_at (sealed_commands m s) (drop (17 * m) (behind13 r)) (17 * m) (length_sealed_commands m s (omega arith)) in
      ap₂ sealed_operands count (these ∙ sym (append-nil (sealed_commands m s))) ∙ operands_commands m s [] long

  given_length : length (given r) ≡ 16
  given_length =
      length-take-le (length r - (length r - 17 + 1)) (drop (length r - 17 + 1) r) (omega (arith, length-drop (length r - 17 + 1) r)) ∙ omega (arith, record_length_lem r e)

  given_tag : given r ≡ (parts r).tag
  given_tag =
      let k : length r - 17 + 1 ≡ length r - 16 = omega (arith, record_length_lem r e) in
      take_all (length r - (length r - 17 + 1)) (drop (length r - 17 + 1) r) (omega (arith, length-drop (length r - 17 + 1) r))
      ∙ ap (λ (i : ℕ). drop i r) k ∙ sym (record_tag r e)

  -- the commands gathered to a buffer of the blocks' length
  pub sealed_gathered : (before : List ℕ) {number : ℕ} {after : List ℕ} → length before ≡ 16 * blocks r
      → number ≡ unless (eqb (length (commands r) % 17) 0) 4 (unless (eqb (length before) (16 * (length (commands r) / 17))) 5 0)
      → after ≡ outcome number (sealed_operands (length (commands r) / 17) (commands r)) before → after ≡ (parts r).sealed
  sealed_gathered before l n o =
      let whole : length (commands r) % 17 ≡ 0 = omega (arith, commands_length) in
      let long : length before ≡ 16 * (length (commands r) / 17) = omega (arith, commands_length) in
      let none : unless (eqb (length (commands r) % 17) 0) 4 (unless (eqb (length before) (16 * (length (commands r) / 17))) 5 0) ≡ 0 =
      rw (eq-eqb (length (commands r) % 17) 0 whole, eq-eqb (length before) (16 * (length (commands r) / 17)) long) in
      o ∙ ap (λ (k : ℕ). outcome k (sealed_operands (length (commands r) / 17) (commands r)) before) (n ∙ none) ∙ commands_sealed

-- ---- under a key of n = 1 whose set is loaded

module _ (store : Store) (k : WorkingKey) (one : k.n ≡ 1) (is : loaded store k.set ≡ true) (r : List ℕ) (e : is_record r ≡ true) where
  -- the tag verified
  pub tag_verified : Bytes r → {v : Verified}
      → v ≡ verification (E (parts_in store k.set) k.n k.words) (take (length r - 17) r) (given r) (under_key k.n (loaded store k.set) (cmac_refusal k.n (length (given r))))
      → v.yes ≡ tagged (tag_under store k) (parts r)
  unfolding verification valid tagged tag_under
  tag_verified b h =
      let m : List ℕ → List ℕ = E (parts_in store k.set) k.n k.words in
      let l : length (given r) ≡ 16 = given_length r e in
      let none : under_key k.n (loaded store k.set) (cmac_refusal k.n (length (given r))) ≡ 0 =
      under_loaded k.n (loaded store k.set) (cmac_refusal k.n (length (given r))) (cmac_one k.n (length (given r))) is
      ∙ (cmac_iff k.n (length (given r))).1 (one, omega arith, omega arith) in
      ap (λ (v : Verified). v.yes) (h ∙ ap (verification m (take (length r - 17) r) (given r)) none)
      ∙ ap₂ (λ (n : ℕ) (x : List ℕ). same (tag m n x) (given r)) l (sym (record_front r e b))
      ∙ ap (same (tag m 16 (front (parts r)))) (given_tag r e)

  -- the sealed blocks opened after the start block
  pub body_opened : {start sealed : List ℕ} {number : ℕ} {after : List ℕ}
      → number ≡ under_key k.n (loaded store k.set) (cbc_refusal k.n (length start) (length sealed) (length sealed))
      → after ≡ outcome number (cbc_open (U (parts_in store k.set) k.n k.words) (16 * k.n) start sealed) sealed
      → start ≡ take 16 (drop 44 r) → sealed ≡ (parts r).sealed → length sealed ≡ 16 * blocks r → after ≡ opened store k r
  unfolding opened body open_under
  body_opened {start} {sealed} {number} n o a s l =
      let m : List ℕ → List ℕ = U (parts_in store k.set) k.n k.words in
      let size : 16 * k.n ≡ 16 = omega (arith, one) in
      let long : length start ≡ 16 * k.n = ap length a ∙ length-take-le 16 (drop 44 r) (omega (arith, length-drop 44 r, record_length_lem r e)) ∙ sym size in
      let whole : length sealed % (16 * k.n) ≡ 0 = ap₂ (λ (a b : ℕ). a % b) l size ∙ omega arith in
      let none : number ≡ 0 =
      n
      ∙ under_loaded k.n (loaded store k.set) (cbc_refusal k.n (length start) (length sealed) (length sealed)) (cbc_one k.n (length start) (length sealed) (length sealed)) is
      ∙ (cbc_iff k.n (length start) (length sealed) (length sealed)).1 (inl one, long, whole, refl) in
      o ∙ ap (λ (i : ℕ). outcome i (cbc_open m (16 * k.n) start sealed) sealed) none
      ∙ ap (λ (z : ℕ). cbc_open m z start sealed) size
      ∙ ap₂ (cbc_open m 16) (a ∙ sym (record_start r e)) s
