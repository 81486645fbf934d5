-- After i turns i iterations are done.
-- Assumes nothing.
use Rattle.std.proofs.Common.{◌≡◌, ℕ, true, sym, refl, ◌∙◌, subst, arith, rules}
use Rattle.forms.proofs.Booleans.{when_chosen, when_spared}
use Rattle.labyrinth.specs.Working.{Size, both, lookup_in}
use Rattle.labyrinth.proofs.Refusals.{legal_size_of}
use Rattle.group_rounds.proofs.Iterations.{Ran, key_room, ran_none, ran_more}
use Rattle.group_rounds.proofs.rounds.Goals as goal
use Rattle.group_rounds.proofs.rounds.Goals.{Else-not-is_legal, In-loop-i}

size : (g : _) (c : Else-not-is_legal g) → Size g.row.N
size g c = legal_size_of _ (sym c.is_legal.ensures ∙ c.if-not-is_legal.false)

pub loop-i-init : goal.loop-i-init
loop-i-init g c = ran_none _ g.row.N (size g (goal.at.loop-i-init g c).Else-not-is_legal) c.args.ks.now _ _ (search rules) (search rules)

pub overflow_mul-i : goal.overflow_mul-i
overflow_mul-i g c =
    let s = size g (goal.at.overflow_mul-i g c).Else-not-is_legal in
    omega (arith, key_room g.row.N s c.loop-i.i (omega arith))

pub turned-y-requires : goal.turned-y-requires
turned-y-requires g c =
    let s = size g (goal.at.turned-y-requires g c).Else-not-is_legal in
    (s, key_room g.row.N s c.loop-i.i (omega arith), c.constants-c.ensures)

pub loop-i-preserved : goal.loop-i-preserved
loop-i-preserved g c =
    let s = size g (goal.at.loop-i-preserved g c).Else-not-is_legal in
    ran_more (lookup_in true c.args.t.now) g.row.N s c.args.ks.now c.args.h c.loop-i.i refl c.turned-y.ensures c.loop-i.invariant

pub returns-then-not-is_legal : goal.returns-then-not-is_legal
returns-then-not-is_legal g c = when_spared _ _ c.is_legal.ensures c.if-not-is_legal.true

pub returns : goal.returns
returns g c =
    let e : c.loop-i.i ≡ 16 = omega arith in
    subst (λ (k : ℕ). Ran (lookup_in true c.args.t.now) g.row.N c.args.ks.now c.args.h k (both c.loop-i.l c.loop-i.r)) e c.loop-i.invariant
    ∙ when_chosen _ _ c.is_legal.ensures c.if-not-is_legal.false
