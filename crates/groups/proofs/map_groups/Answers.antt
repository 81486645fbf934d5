-- Each arm maps by what was made of the lent ones.
-- Assumes nothing.
use mathlib.Core.Path.{◌≡◌, sym, ◌∙◌}
use Prim.Native.Nat.{◌%◌}
use lib.ListN.{length}
use Rattle.forms.proofs.Booleans.{when_spared}
use Rattle.labyrinth.specs.Working.{Size}
use Rattle.eight_tables.proofs.Making.{eight_filled}
use Rattle.groups.proofs.Turns.{are_groups_is, groups_made}
use Rattle.groups.proofs.map_groups.Goals as goal
use Rattle.groups.proofs.map_groups.Goals.{Else-not-are_groups}

pub returns-then-not-are_groups : goal.returns-then-not-are_groups
returns-then-not-are_groups c = when_spared _ _ c.are_groups.ensures (c.if-not-are_groups.true)

-- the lengths are those of groups
are : (c : Else-not-are_groups) → let a = c.args in
    Size a.n × (length a.src.now % 64 ≡ 0) × (length a.mask.now ≡ length a.src.now) × (length a.dst.now ≡ length a.src.now)
are c = are_groups_is _ _ _ _ c.are_groups.ensures (c.if-not-are_groups.false)

pub each_group-requires : goal.each_group-requires
each_group-requires c = are (goal.at.each_group-requires c).Else-not-are_groups

pub returns : goal.returns
returns c =
    let a = c.args in
    let long = c.fill-arg-1.given in
    groups_made a.n a.t.now a.s.now a.u.now a.ks.now _ a.mask.now a.dst.now (eight_filled a.t.now c.zeros-eight.result long c.zeros-eight.ensures c.fill.ensures.table) long
    c.spaced-there.ensures.table c.spaced-there.ensures.bytes c.spaced-back.ensures.table c.spaced-back.ensures.bytes
    (sym (c.if-not-are_groups.false) ∙ c.are_groups.ensures) c.each_group.ensures
