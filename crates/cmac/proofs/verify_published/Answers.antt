-- What is prepared gives E.
-- Assumes nothing.
use mathlib.Core.Path.{refl, ◌∙◌}
use mathlib.Core.Bool.{false}
use Rattle.labyrinth.specs.Lent.{ArticlePrepared}
use Rattle.labyrinth.proofs.Lent.{article_by_one}
use Rattle.modes.proofs.Refusals.{cmac_taken}
use Rattle.cmac.proofs.Tags.{verified_under}
use Rattle.cmac.proofs.verify_published.Goals as goal
use Rattle.cmac.proofs.verify_published.Goals.{After-schedule-ks}

-- what is prepared
made : (c : After-schedule-ks) → let k = c.args.k in ArticlePrepared false k.n k.words c.table-t.result c.substitution-s.result c.inverse-u.result c.schedule-ks.result
made c = record {
  table = c.table-t.ensures;
  substitution = c.substitution-s.ensures;
  inverse = c.inverse-u.ensures;
  subkeys = c.schedule-ks.ensures;
}

pub returns : goal.returns
returns c =
    let a = c.args in
    c.verify_lent.ensures ∙ verified_under _ _ a.message.now a.tag.now refl (λ z. article_by_one (made (goal.at.returns c).After-schedule-ks) (cmac_taken _ _ refl z).size)
