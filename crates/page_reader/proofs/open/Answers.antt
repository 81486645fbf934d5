-- Where all checks pass the body is opened; a refusal leaves the destination.
-- Assumes nothing.
use mathlib.Core.Path.{sym, ap, ◌∙◌}
use Prim.Native.Nat.{ℕ}
use borrow.Author.Rules.{rules}
use Rattle.forms.specs.Refusals.{outcome}
use Rattle.forms.proofs.Refusals.{refused_keeps}
use Rattle.keyed_pages.specs.Keyed.{opened}
use Rattle.keyed_pages.proofs.Refusals.{read_taken}
use Rattle.page_reader.proofs.open.Goals as goal

pub open_body-requires : goal.open_body-requires
open_body-requires c =
    let t = read_taken _ _ _ _ _ c.read_refusal-number.ensures c.if-opens.true in
    search rules

pub returns-then-opens : goal.returns-then-opens
returns-then-opens c =
    let a = c.args in record { number = c.read_refusal-number.ensures; body = c.open_body.ensures ∙ ap (λ (k : ℕ). outcome k (opened a.store a.sealing a.bytes.now) a.dst.now) (sym c.if-opens.true) }

pub returns-else-opens : goal.returns-else-opens
returns-else-opens c = record { number = c.read_refusal-number.ensures; body = refused_keeps _ _ _ c.if-opens.false }
