-- The length, or the fresh store written.
-- Assumes nothing.
use mathlib.Core.Path.{refl, ap, ◌∙◌}
use lib.ListN.{length}
use Rattle.records.specs.Records.{store_bytes}
use Rattle.forms.proofs.Whole.{as_written}
use Rattle.records.proofs.Numbers.{store_refused, store_passed}
use Rattle.stores_c.proofs.labyrinth_store_fresh.Goals as goal

pub returns-then-other : goal.returns-then-other
returns-then-other c = record { number = store_refused (length c.args.store.now) 0 c.if-other.true; store = refl }

pub returns : goal.returns
returns c =
    let before = c.args.store.now in
    let h = c.if-other.false in
    record { number = store_passed (length before) 0 h; store = as_written before _ 1072 h c.put_store.ensures ∙ ap store_bytes c.fresh.ensures }
