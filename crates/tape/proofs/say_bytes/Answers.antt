-- One byte at the front, and the others behind it.
-- Assumes nothing.
use mathlib.Core.Path.{◌≡◌, ap, ◌∙◌}
use mathlib.Core.List.{List, ◌∷◌}
use Prim.Native.Nat.{ℕ, suc, ◌+◌, ◌-◌, ◌≤◌}
use native.Mathlib.Omega.{arith}
use lib.ListN.{length, take, drop, set, length-set}
use Rattle.forms.specs.Lists.{over}
use Rattle.forms.proofs.Parts.{part_kept, part_length}
use Rattle.strings.proofs.Laying.{laid_whole}
use Rattle.tape_rules.proofs.Cases.{bytes_set}
use Rattle.tape.proofs.say_bytes.Goals as goal
use Rattle.tape.proofs.say_bytes.Goals.{After-copy_into, Start}

pub slice_bounds-copy_into-end : goal.slice_bounds-copy_into-end
slice_bounds-copy_into-end c = simp length-set (omega (arith, c.requires))

-- the part that is lent is as long as the bytes, and comes back as them
part-long : (c : Start) → let a = c.args in length a.more.now ≡ length (take (1 + length a.more.now - 1) (drop 1 (set a.answer.now 0 0)))
part-long c =
    let d = set c.args.answer.now 0 0 in
    let k : 1 + length c.args.more.now ≤ length d = simp length-set (omega (arith, c.requires)) in
    omega (arith, part_length d 1 (1 + length c.args.more.now) (omega arith) k)

copied : (c : After-copy_into) → c.copy_into.new.d ≡ c.args.more.now
copied c = let a = c.args in c.copy_into.ensures ∙ laid_whole a.more.now (take (1 + length a.more.now - 1) (drop 1 (set a.answer.now 0 0))) (part-long (goal.at.After-copy_into c).Start)

pub shape_of-answer : goal.shape_of-answer
shape_of-answer c =
    let d = set c.args.answer.now 0 0 in
    part_kept d c.copy_into.new.d 1 (1 + length c.args.more.now) (omega arith) (simp length-set (omega (arith, c.requires)))
    (omega (arith, ap length (copied (goal.at.shape_of-answer c).After-copy_into))) ∙ length-set c.args.answer.now 0 0

pub returns : goal.returns
returns c =
    let ys = c.copy_into.new.d in
    let e = copied (goal.at.returns c).After-copy_into in
    let one : 1 + length c.args.more.now ≡ suc (length c.args.more.now) = omega arith in record {
      returned = ap (λ (k : ℕ). record { number = 0; taken = c.args.taken; written = k; next = c.args.next }) one;
      bytes = bytes_set c.args.answer.now ys (1 + length c.args.more.now) (omega (arith, ap length e)) (omega (arith, c.requires))
          ∙ ap (λ (y : List ℕ). over (0 ∷ y) c.args.answer.now) e;
    }
