-- A refusal leaves the destination; else the blocks are chained after the start block.
-- Assumes nothing.
use mathlib.Core.Path.{◌≡◌, sym, ap, ◌∙◌}
use mathlib.Core.List.{List}
use Prim.Native.Nat.{ℕ, ◌*◌, ◌/◌, ◌≤◌}
use native.Mathlib.Omega.{arith}
use lib.ListN.{length, take}
use Rattle.forms.specs.Mapped.{chain_blocks}
use Rattle.forms.proofs.Refusals.{refused_keeps}
use Rattle.strings.proofs.Laying.{block_copy_front, block_copy_length}
use Rattle.labyrinth.specs.Lent.{lent}
use Rattle.chains.proofs.Refusals.{chain_made}
use Rattle.modes.proofs.Cbc.{cbc_seal_chain}
use Rattle.modes.proofs.Refusals.{Cbc_taken, cbc_taken}
use Rattle.cbc_lent.proofs.seal_lent.Goals as goal
use Rattle.cbc_lent.proofs.seal_lent.Goals.{After-block_copy-chain, Else-number-ne0}

pub returns-then-number-ne0 : goal.returns-then-number-ne0
returns-then-number-ne0 c = record { number = c.cbc_refusal-number.ensures; run = refused_keeps _ _ _ c.if-number-ne0.true }

-- the start block and the source
abbrev start : Else-number-ne0 → List ℕ
start c = c.args.start.now

abbrev src : Else-number-ne0 → List ℕ
src c = c.args.src.now

-- what a run that is taken has
taken : (c : Else-number-ne0) → let a = c.args in Cbc_taken a.n (length (start c)) (length (src c)) (length a.dst.now)
taken c = cbc_taken _ _ _ _ c.cbc_refusal-number.ensures c.if-number-ne0.false

-- the start block fits into the 64 bytes, and stands in front
fits : (c : Else-number-ne0) → length (start c) ≤ 64
fits c = omega (arith, (taken c).start, (taken c).size.top)

front : (c : After-block_copy-chain) → take (length (start (goal.at.After-block_copy-chain c).Else-number-ne0)) c.block_copy-chain.result ≡ start (goal.at.After-block_copy-chain c).Else-number-ne0
front c = block_copy_front (start (goal.at.After-block_copy-chain c).Else-number-ne0) (fits (goal.at.After-block_copy-chain c).Else-number-ne0) c.block_copy-chain.ensures

pub slice_bounds-chain-end : goal.slice_bounds-chain-end
slice_bounds-chain-end c =
    omega (arith, block_copy_length (start (goal.at.slice_bounds-chain-end c).Else-number-ne0) (fits (goal.at.slice_bounds-chain-end c).Else-number-ne0) c.block_copy-chain.ensures, fits (goal.at.slice_bounds-chain-end c).Else-number-ne0)

pub slice_bounds-chain-end-2 : goal.slice_bounds-chain-end-2
slice_bounds-chain-end-2 c = sym (ap length (front (goal.at.slice_bounds-chain-end-2 c).After-block_copy-chain))

pub returns : goal.returns
returns c =
    let call = c.chain in
    let a = c.args in
    let map : List ℕ → List ℕ = lent a.n a.t.now a.s.now a.u.now a.ks.now in record {
      number = sym c.if-number-ne0.false ∙ c.cbc_refusal-number.ensures;
      run = chain_made a.n _ _ (taken (goal.at.returns c).Else-number-ne0).size (ap length (front (goal.at.returns c).After-block_copy-chain) ∙ (taken (goal.at.returns c).Else-number-ne0).start) (taken (goal.at.returns c).Else-number-ne0).whole (taken (goal.at.returns c).Else-number-ne0).same call.ensures.number call.ensures.blocks
          ∙ ap (λ (x : List ℕ). chain_blocks map (16 * a.n) (length (src (goal.at.returns c).Else-number-ne0) / (16 * a.n)) x (src (goal.at.returns c).Else-number-ne0)) (front (goal.at.returns c).After-block_copy-chain)
          ∙ sym (cbc_seal_chain map (16 * a.n) (start (goal.at.returns c).Else-number-ne0) (src (goal.at.returns c).Else-number-ne0));
    }
