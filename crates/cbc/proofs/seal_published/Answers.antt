-- What is prepared gives E.
-- Assumes nothing.
use mathlib.Core.Bool.{false}
use mathlib.Core.List.{List}
use Prim.Native.Nat.{ℕ, ◌*◌}
use Rattle.labyrinth.specs.Lent.{ArticlePrepared}
use Rattle.labyrinth.proofs.Lent.{article_run_by_one}
use Rattle.modes.specs.Cbc.{cbc_seal}
use Rattle.modes.proofs.Refusals.{cbc_taken}
use Rattle.cbc.proofs.seal_published.Goals as goal
use Rattle.cbc.proofs.seal_published.Goals.{After-schedule-ks}

-- what is prepared
made : (c : After-schedule-ks) → let k = c.args.k in ArticlePrepared false k.n k.words c.table-t.result c.substitution-s.result c.inverse-u.result c.schedule-ks.result
made c = record {
  table = c.table-t.ensures;
  substitution = c.substitution-s.ensures;
  inverse = c.inverse-u.ensures;
  subkeys = c.schedule-ks.ensures;
}

pub returns : goal.returns
returns c =
    let a = c.args in
    let run = c.seal_lent.ensures in
    record { number = run.number; run = article_run_by_one (made (goal.at.returns c).After-schedule-ks) (λ (m : List ℕ → List ℕ). cbc_seal m (16 * a.k.n) a.start.now a.src.now) a.dst.now (λ z. (cbc_taken _ _ _ _ run.number z).size) run.run }
