-- The lengths of the records refused with a no, or the answer.
-- Assumes nothing.
use mathlib.Core.Bool.{not}
use mathlib.Core.Path.{refl, ap, ◌∙◌}
use Rattle.cmac.specs.declared.Verified.{Verified}
use Rattle.cmac.proofs.Tags.{verification_number}
use Rattle.one_shot.proofs.OneShot.{told_byte}
use Rattle.records.specs.Lent.{lent_number, lent_e}
use Rattle.records.proofs.Numbers.{records_refused, records_passed}
use Rattle.tags_c.proofs.labyrinth_key_cmac_verify.Goals as goal

pub returns-then-not-fit : goal.returns-then-not-fit
unfolding lent_number
returns-then-not-fit c =
    let a = c.args in
    record { number = records_refused a.store.now a.working.now c.fit.ensures _ (ap not c.if-not-fit.true); yes = refl }

pub returns : goal.returns
unfolding lent_number
returns c =
    let a = c.args in record {
      number = ap (λ (v : Verified). v.number) c.verified-v.ensures ∙ verification_number _ a.message.now a.tag.now _
          ∙ records_passed a.store.now a.working.now c.fit.ensures _ (ap not c.if-not-fit.false);
      yes = told_byte (lent_e a.store.now a.working.now) a.message.now a.tag.now _ c.verified-v.ensures c.as_byte.ensures;
    }
