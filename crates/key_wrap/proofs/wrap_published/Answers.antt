-- What is prepared gives E.
-- Assumes nothing.
use mathlib.Core.Bool.{false}
use mathlib.Core.List.{List}
use Prim.Native.Nat.{ℕ}
use Rattle.labyrinth.specs.Lent.{ArticlePrepared}
use Rattle.labyrinth.proofs.Lent.{article_run_by_one}
use Rattle.modes.specs.KeyWrap.{wrapped}
use Rattle.modes.proofs.Refusals.{wrap_taken}
use Rattle.key_wrap.proofs.wrap_published.Goals as goal
use Rattle.key_wrap.proofs.wrap_published.Goals.{After-schedule-ks}

-- what is prepared
made : (c : After-schedule-ks) → let k = c.args.k in ArticlePrepared false k.n k.words c.table-t.result c.substitution-s.result c.inverse-u.result c.schedule-ks.result
made c = record {
  table = c.table-t.ensures;
  substitution = c.substitution-s.ensures;
  inverse = c.inverse-u.ensures;
  subkeys = c.schedule-ks.ensures;
}

pub returns : goal.returns
returns c =
    let a = c.args in
    let call = c.wrap_lent.ensures in
    let number = call.number in
    record { number = number; key = article_run_by_one (made (goal.at.returns c).After-schedule-ks) (λ (m : List ℕ → List ℕ). wrapped m a.src.now) a.dst.now (λ z. (wrap_taken _ _ _ number z).size) call.key }
