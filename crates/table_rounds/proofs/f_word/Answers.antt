-- After p turns of the outer loop and d of the inner one the two sums have the terms below p + d, and those four on.
-- Assumes nothing.
use Rattle.std.proofs.Common.{◌≡◌, ℕ, ◌+◌, sym, ap, add-zero, mod-lt, arith}
use native.Mathlib.Nat.{zero-mod}
use Rattle.labyrinth.specs.Working.{lookup_in}
use Rattle.labyrinth.proofs.Permutation.{sums_none, sums_more, sums_at, sums_all, multiple_more, multiple_end}
use Rattle.table_rounds.proofs.f_word.Goals as goal

pub loop-p-init : goal.loop-p-init
loop-p-init c = (omega arith, zero-mod _, sums_none _ _ c.requires.0 _ _ _)

pub loop-d-init : goal.loop-d-init
loop-d-init c = (omega arith, sums_at _ _ c.requires.0 _ _ _ (sym (add-zero c.loop-p.p)) c.loop-p.invariant.2)

pub offset_bounds-y-j : goal.offset_bounds-y-j
offset_bounds-y-j c = omega (arith, mod-lt (c.args.j + c.loop-d.d) c.requires.0.pos)

pub bounds-y-j : goal.bounds-y-j
bounds-y-j c = omega (arith, mod-lt (c.args.j + c.loop-d.d) c.requires.0.pos)

pub merged_word-even-requires : goal.merged_word-even-requires
merged_word-even-requires c = (omega arith, c.requires.2)

pub merged_word-odd-requires : goal.merged_word-odd-requires
merged_word-odd-requires c = (omega arith, c.requires.2)

pub loop-d-preserved : goal.loop-d-preserved
loop-d-preserved c =
    let l = c.loop-p in
    (omega arith, sums_more _ _ c.requires.0 _ _ _ l.p c.loop-d.d l.invariant.1 c.loop-d.invariant.1 c.merged_word-even.ensures c.merged_word-odd.ensures)

pub loop-p-preserved : goal.loop-p-preserved
loop-p-preserved c =
    let l = c.loop-p in
    let s = c.requires.0 in
    let n = c.args.n in
    let e : c.loop-d.d ≡ n = omega arith in
    (omega arith, multiple_more n s l.p l.invariant.1, sums_at _ _ s _ _ _ (ap (λ (d : ℕ). l.p + d) e) c.loop-d.invariant.1)

pub returns : goal.returns
unfolding lookup_in
returns c =
    let l = c.loop-p in
    sums_all _ _ c.requires.0 _ _ _ (multiple_end c.args.n c.requires.0 l.p l.invariant.1 l.invariant.0 (omega arith)) c.requires.1 l.invariant.2
