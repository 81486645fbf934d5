-- Refused, or the entry stored at the count.
-- Assumes nothing.
use mathlib.Core.Path.{◌≡◌, sym, ◌∙◌}
use Prim.Native.Nat.{◌<◌}
use native.Mathlib.Omega.{arith}
use lib.ListN.{length}
use Rattle.registers.specs.Registers.{extended}
use Rattle.registers.proofs.Refusals.{room_count, add_refused, add_done}
use Rattle.key_register.proofs.add.Goals as goal
use Rattle.key_register.proofs.add.Goals.{Else-refusal-ne0, Start}

long : (s : Start) → length s.args.r.entries ≡ 64
long s = s.well_formed.0.1.1.1.0.1.0.1

room : (c : Else-refusal-ne0) → c.args.r.count < 64
room c =
    room_count c.args.r c.args.number c.args.replaces (long (goal.at.Else-refusal-ne0 c).Start) (sym c.add_refusal-refusal.ensures ∙ c.if-refusal-ne0.false)

pub returns-then-refusal-ne0 : goal.returns-then-refusal-ne0
returns-then-refusal-ne0 c =
    let a = c.args in
    add_refused a.r a.number a.replaces a.key c.add_refusal-refusal.result c.add_refusal-refusal.ensures c.if-refusal-ne0.true

pub offset_bounds-longer-n : goal.offset_bounds-longer-n
offset_bounds-longer-n c = let l = room c in omega arith

pub bounds-longer-n : goal.bounds-longer-n
bounds-longer-n c = room c

pub overflow_add-longer : goal.overflow_add-longer
overflow_add-longer c = let l = room c in omega arith

pub returns : goal.returns
unfolding extended
returns c =
    let a = c.args in
    add_done a.r a.number a.replaces a.key (sym c.add_refusal-refusal.ensures ∙ c.if-refusal-ne0.false)
