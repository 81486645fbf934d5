-- What is prepared gives E.
-- Assumes nothing.
use mathlib.Core.Bool.{false}
use mathlib.Core.List.{List}
use Prim.Native.Nat.{ℕ}
use lib.ListN.{length}
use Rattle.labyrinth.specs.Lent.{ArticlePrepared}
use Rattle.labyrinth.proofs.Lent.{article_run_by_one}
use Rattle.modes.specs.Cmac.{tag}
use Rattle.modes.proofs.Refusals.{cmac_taken}
use Rattle.cmac.proofs.make_published.Goals as goal
use Rattle.cmac.proofs.make_published.Goals.{After-schedule-ks}

-- what is prepared
made : (c : After-schedule-ks) → let k = c.args.k in ArticlePrepared false k.n k.words c.table-t.result c.substitution-s.result c.inverse-u.result c.schedule-ks.result
made c = record {
  table = c.table-t.ensures;
  substitution = c.substitution-s.ensures;
  inverse = c.inverse-u.ensures;
  subkeys = c.schedule-ks.ensures;
}

pub returns : goal.returns
returns c =
    let a = c.args in
    let run = c.make_lent.ensures in
    record { number = run.number; tag = article_run_by_one (made (goal.at.returns c).After-schedule-ks) (λ (m : List ℕ → List ℕ). tag m (length a.dst.now) a.message.now) a.dst.now (λ z. (cmac_taken _ _ run.number z).size) run.tag }
