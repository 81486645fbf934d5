-- What follows from a verdict, and for some rows what it is.
-- Assumes nothing.
use mathlib.Core.Path.{◌≡◌, refl, sym, ap, ◌∙◌}
use mathlib.Core.Bool.{Bool, true, false}
use mathlib.Core.Logic.{◌↔◌}
use mathlib.Core.List.{List}
use Prim.Native.Nat.{ℕ, ◌+◌, ◌-◌, ◌%◌, ◌≤◌}
use native.Mathlib.Omega.{arith}
use lib.ListN.{get_or, replicate}
use Rattle.forms.specs.Lists.{tabulate, xor_sum}
use Rattle.forms.specs.Words.{byte, join}
use Rattle.forms.proofs.Tests.{tested_agree}
use Rattle.forms.proofs.Sums.{xor_sum_cong}
use Rattle.forms.proofs.Words.{byte_zero, word_ext}
use Rattle.field.specs.Field.{times_x, shift, mul}
use Rattle.field.specs.Mixing.{element, matrix, dot, mix_by, mix, row_sum}
use Rattle.field.proofs.Field.{mul-one}
use Rattle.field.proofs.Mixing.{conv, conv_comm, mix_lt, byte_mix}
use Rattle.rows.specs.Inverse.{Row, constant_row, neutral}
use Rattle.judge.specs.declared.Verdict.{Verdict}
use Rattle.judge.specs.Judge.{nonzero, active_bytes, together, GoodEnough, FallsShort, Judged}
use Rattle.judge.proofs.Counts.{nonzero_most}

-- ---- one verdict, but for the word that a no shows

same_answer : (a b : Bool) {G : Type 0} → (a ≡ true) ↔ G → (b ≡ true) ↔ G → a ≡ b
same_answer true b p q = sym (q.1 (p.0 refl))
same_answer false true p q = p.1 (q.0 refl)
same_answer false false p q = refl

pub one_verdict : (g : List ℕ) (u v : Verdict) → Judged g u → Judged g v → (u.yes ≡ v.yes) × (u.yes ≡ true → u.word ≡ v.word)
one_verdict g u v p q =
    let e = same_answer u.yes v.yes p.0 q.0 in
    (e, λ h. p.1 h ∙ sym (q.1 (sym e ∙ h)))

-- ---- the zero row, and the row that changes nothing

pub zero_row_short : FallsShort (replicate 8 0) 1
unfolding together active_bytes nonzero mix mix_by matrix tabulate element dot join byte mul shift times_x xor_sum
zero_row_short = (omega arith, λ e. omega arith, omega arith)

pub neutral_short : FallsShort neutral 1
unfolding together active_bytes nonzero mix mix_by matrix tabulate element dot join byte mul shift times_x xor_sum neutral constant_row
neutral_short = (omega arith, λ e. omega arith, omega arith)

-- ---- nine is the most

pub nine_at_most : (g : List ℕ) → together g 1 ≤ 9
unfolding together active_bytes
nine_at_most g = let one : active_bytes 1 ≡ 1 = unfold nonzero byte in refl in omega (arith, one, nonzero_most 8 (byte (mix g 1)))

-- ---- a row that is good enough doesn't XOR to zero: otherwise the word of eight 01 is mixed to zero

abbrev ones : ℕ
ones = 0x0101010101010101

mix_ones : (g : List ℕ) → Row g → row_sum g ≡ 0 → mix g ones ≡ 0
unfolding row_sum conv
mix_ones g r e =
    word_ext (mix g ones) 0 (mix_lt g ones) (omega arith)
    (λ i l. byte_mix g ones i l ∙ conv_comm (byte ones) (λ k. get_or g k 0) i l
    ∙ xor_sum_cong 8 (λ j. mul (get_or g j 0) (byte ones ((i + 8 - j) % 8))) (λ j. get_or g j 0)
    (λ j m. ap (mul (get_or g j 0)) (tested_agree 8 (byte ones) (λ k. 1) (unfold byte in tt) ((i + 8 - j) % 8) (omega arith)) ∙ mul-one (get_or g j 0) (r.1 j))
    ∙ e ∙ sym (byte_zero i))

pub good_accepted : (g : List ℕ) → Row g → GoodEnough g → row_sum g ≡ 0 → ⊥
unfolding together active_bytes
good_accepted g r h e =
    let before : active_bytes ones ≡ 8 = unfold nonzero byte in refl in
    let after : active_bytes (mix g ones) ≡ 0 = ap active_bytes (mix_ones g r e) ∙ unfold nonzero byte in refl in
    omega (arith, h ones (omega arith) (λ (z : ones ≡ 0). omega arith), before, after)
