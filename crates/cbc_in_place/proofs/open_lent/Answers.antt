-- A refusal leaves the run; else it is opened after the start block.
-- Assumes nothing.
use mathlib.Core.Path.{◌≡◌, sym, ap, ◌∙◌}
use mathlib.Core.List.{List}
use Prim.Native.Nat.{ℕ, ◌*◌, ◌≤◌}
use native.Mathlib.Omega.{arith}
use lib.ListN.{length, take}
use Rattle.forms.proofs.Refusals.{refused_keeps}
use Rattle.strings.proofs.Laying.{block_copy_front, block_copy_length}
use Rattle.labyrinth.specs.Lent.{lent}
use Rattle.modes.specs.Cbc.{cbc_open}
use Rattle.modes.proofs.Refusals.{Cbc_taken, cbc_taken}
use Rattle.cbc_in_place.proofs.open_lent.Goals as goal
use Rattle.cbc_in_place.proofs.open_lent.Goals.{After-block_copy-chain, Else-number-ne0}

pub returns-then-number-ne0 : goal.returns-then-number-ne0
returns-then-number-ne0 c = record { number = c.cbc_refusal-number.ensures; run = refused_keeps _ _ _ c.if-number-ne0.true }

-- the start block and the run
abbrev start : Else-number-ne0 → List ℕ
start c = c.args.start.now

abbrev d : Else-number-ne0 → List ℕ
d c = c.args.d.now

-- what a run that is taken has
taken : (c : Else-number-ne0) → Cbc_taken c.args.n (length (start c)) (length (d c)) (length (d c))
taken c = cbc_taken _ _ _ _ c.cbc_refusal-number.ensures c.if-number-ne0.false

-- the start block fits into the 64 bytes, and stands in front
fits : (c : Else-number-ne0) → length (start c) ≤ 64
fits c = omega (arith, (taken c).start, (taken c).size.top)

front : (c : After-block_copy-chain) → take (length (start (goal.at.After-block_copy-chain c).Else-number-ne0)) c.block_copy-chain.result ≡ start (goal.at.After-block_copy-chain c).Else-number-ne0
front c = block_copy_front (start (goal.at.After-block_copy-chain c).Else-number-ne0) (fits (goal.at.After-block_copy-chain c).Else-number-ne0) c.block_copy-chain.ensures

pub slice_bounds-chain-end : goal.slice_bounds-chain-end
slice_bounds-chain-end c =
    omega (arith, block_copy_length (start (goal.at.slice_bounds-chain-end c).Else-number-ne0) (fits (goal.at.slice_bounds-chain-end c).Else-number-ne0) c.block_copy-chain.ensures, fits (goal.at.slice_bounds-chain-end c).Else-number-ne0)

pub slice_bounds-open_stretches-end : goal.slice_bounds-open_stretches-end
slice_bounds-open_stretches-end c = sym (ap length (front (goal.at.slice_bounds-open_stretches-end c).After-block_copy-chain))

pub open_stretches-requires : goal.open_stretches-requires
open_stretches-requires c =
    ((taken (goal.at.open_stretches-requires c).Else-number-ne0).size, ap length (front (goal.at.open_stretches-requires c).After-block_copy-chain) ∙ (taken (goal.at.open_stretches-requires c).Else-number-ne0).start, (taken (goal.at.open_stretches-requires c).Else-number-ne0).whole)

pub returns : goal.returns
returns c =
    let a = c.args in record {
      number = sym c.if-number-ne0.false ∙ c.cbc_refusal-number.ensures;
      run = c.open_stretches.ensures
          ∙ ap (λ (x : List ℕ). cbc_open (lent a.n a.t.now a.s.now a.u.now a.ks.now) (16 * a.n) x (d (goal.at.returns c).Else-number-ne0)) (front (goal.at.returns c).After-block_copy-chain);
    }
