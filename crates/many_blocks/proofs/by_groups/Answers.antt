-- The whole groups in front are mapped, then the blocks that are left.
-- Assumes nothing.
use mathlib.Core.Path.{◌≡◌, sym, ap, ◌∙◌}
use mathlib.Core.List.{List, ◌++◌}
use Prim.Native.Nat.{ℕ, ◌-◌, ◌*◌, ◌/◌, ◌%◌}
use native.Mathlib.Omega.{arith}
use lib.ListN.{length, take, drop}
use lib.Seq.{length-take-le}
use Rattle.forms.specs.Lists.{when}
use Rattle.forms.proofs.EachBlock.{Kept, read_length}
use Rattle.forms.proofs.Parts.{part_length}
use Rattle.labyrinth.specs.Lent.{lent}
use Rattle.labyrinth.proofs.Lent.{lent_length}
use Rattle.many_blocks.proofs.Groups.{groups_within, front_taken, front_kept, rest_kept}
use Rattle.many_blocks.proofs.by_groups.Goals as goal
use Rattle.many_blocks.proofs.by_groups.Goals.{After-map_groups, Start}

-- what is read, by what is lent
map : Start → List ℕ → List ℕ
map s = lent s.args.n s.args.t.now s.args.s.now s.args.u.now s.args.ks.now

pub slice_bounds-map_groups-end : goal.slice_bounds-map_groups-end
slice_bounds-map_groups-end c = sym (length-take-le _ c.args.src.now (groups_within (length c.args.src.now)))

pub slice_bounds-map_groups-end-2 : goal.slice_bounds-map_groups-end-2
slice_bounds-map_groups-end-2 c = sym (length-take-le _ c.args.mask.now (omega (arith, c.requires.2)))

pub slice_bounds-map_groups-end-4 : goal.slice_bounds-map_groups-end-4
slice_bounds-map_groups-end-4 c = sym (length-take-le _ c.args.dst.now (omega (arith, c.requires.3)))

-- after the groups
kept : (c : After-map_groups) → let w = length c.args.src.now / 64 * 64 in
    Kept (map (goal.at.After-map_groups c).Start) (16 * c.args.n) (when c.args.own c.args.dst.now c.args.src.now) c.args.mask.now c.args.dst.now (c.map_groups.new.dst ++ drop w c.args.dst.now) w
unfolding map
kept c =
    let a = c.args in
    let w = length a.src.now / 64 * 64 in
    let ls : length (take w a.src.now) ≡ w = length-take-le w a.src.now (groups_within (length a.src.now)) in
    let lm : length (take w a.mask.now) ≡ w = length-take-le w a.mask.now (omega (arith, c.requires.2)) in
    let ld : length (take w a.dst.now) ≡ w = length-take-le w a.dst.now (omega (arith, c.requires.3)) in
    let h : w % 64 ≡ 0 = omega arith in
    front_kept (map (goal.at.After-map_groups c).Start) a.n c.requires.0 (lent_length a.n a.t.now a.s.now a.u.now a.ks.now) a.own a.src.now a.mask.now a.dst.now c.requires.1 c.requires.2 c.requires.3
    (length a.src.now) (groups_within (length a.src.now)) (c.map_groups.auto.dst ∙ ld)
    (front_taken a.n c.requires.0 w _ _ (take w a.src.now) (take w a.mask.now) (take w a.dst.now) h ls lm ld c.map_groups.ensures)

pub by_blocks-requires : goal.by_blocks-requires
unfolding map
by_blocks-requires c =
    let a = c.args in
    let w = length a.src.now / 64 * 64 in
    let k = kept (goal.at.by_blocks-requires c).After-map_groups in
    let r : length (when a.own a.dst.now a.src.now) ≡ length a.src.now = read_length a.own a.dst.now a.src.now c.requires.3 in
    let d = c.map_groups.new.dst ++ drop w a.dst.now in
    let ls : length (take (length a.src.now - w) (drop w a.src.now)) ≡ length a.src.now - w = part_length a.src.now w (length a.src.now) (groups_within _) (omega arith) in (
      c.requires.0,
      ap (λ (i : ℕ). i % (16 * a.n)) (ls ∙ ap (λ (i : ℕ). i - w) (sym r)) ∙ k.left,
      omega (arith, ls, part_length a.mask.now w (length a.mask.now) (omega (arith, c.requires.2)) (omega arith), c.requires.2),
      omega (arith, ls, part_length d w (length d) (omega (arith, k.same, r)) (omega arith), k.same, r),
    )

pub returns : goal.returns
unfolding map
returns c =
    let a = c.args in
    let call = c.by_blocks in
    rest_kept (map (goal.at.returns c).Start) a.n c.requires.0 (lent_length a.n a.t.now a.s.now a.u.now a.ks.now) a.own a.src.now a.mask.now a.dst.now c.requires.1 c.requires.2 c.requires.3
    (kept (goal.at.returns c).After-map_groups) call.auto.dst call.ensures
