-- What is prepared gives U.
-- Assumes nothing.
use mathlib.Core.Path.{ap, ◌∙◌}
use mathlib.Core.Bool.{true}
use mathlib.Core.List.{List}
use Prim.Native.Nat.{ℕ}
use lib.ListN.{length}
use Rattle.labyrinth.specs.Lent.{ArticlePrepared}
use Rattle.labyrinth.proofs.Lent.{article_by_one, article_run_by_one}
use Rattle.modes.specs.KeyWrap.{authentic, unwrapped}
use Rattle.modes.proofs.Refusals.{unwrap_taken, unwrap_cong}
use Rattle.key_wrap.proofs.unwrap_published.Goals as goal
use Rattle.key_wrap.proofs.unwrap_published.Goals.{After-schedule-ks}

-- what is prepared
made : (c : After-schedule-ks) → let k = c.args.k in ArticlePrepared true k.n k.words c.table-t.result c.substitution-s.result c.inverse-u.result c.schedule-ks.result
made c = record {
  table = c.table-t.ensures;
  substitution = c.substitution-s.ensures;
  inverse = c.inverse-u.ensures;
  subkeys = c.schedule-ks.ensures;
}

pub returns : goal.returns
returns c =
    let a = c.args in
    let call = c.unwrap_lent.ensures in
    let number = call.number ∙ unwrap_cong a.k.n (length a.src.now) (length a.dst.now) _ _ (λ size. ap (λ (m : List ℕ → List ℕ). authentic m a.src.now) (article_by_one (made (goal.at.returns c).After-schedule-ks) size)) in
    record { number = number; key = article_run_by_one (made (goal.at.returns c).After-schedule-ks) (λ (m : List ℕ → List ℕ). unwrapped m a.src.now) a.dst.now (λ z. (unwrap_taken _ _ _ _ number z).0.size) call.key }
