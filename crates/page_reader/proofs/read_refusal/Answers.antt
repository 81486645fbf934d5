-- Both keys first; then the layout, the tag and the destination.
-- Assumes nothing.
use mathlib.Core.Path.{◌≡◌, sym, ap, ◌∙◌}
use mathlib.Core.Bool.{true}
use Prim.Native.Nat.{ℕ, ◌*◌}
use native.Mathlib.Omega.{arith}
use lib.Dec.{eqb}
use borrow.Author.Tests.{eq-eqb, ne_eqb}
use Rattle.forms.specs.Refusals.{unless}
use Rattle.catalogue.specs.declared.Entry.{Entry}
use Rattle.catalogue.proofs.Catalogues.{entry_zero}
use Rattle.pages.specs.Pages.{blocks, is_record, parts, tagged}
use Rattle.pages.proofs.Layouts.{record_blocks}
use Rattle.keyed_pages.specs.Keyed.{tag_under}
use Rattle.keyed_pages.specs.Refusals.{read_refusal}
use Rattle.keyed_pages.proofs.Refusals.{Keys_taken, keys_passed, keys_refused, keys_open}
use Rattle.catalogue.proofs.Catalogues.{entry_none, entry_blocks}
use Rattle.page_reader.proofs.read_refusal.Goals as goal
use Rattle.page_reader.proofs.read_refusal.Goals.{Else-e-ne0, Else-keys-ne0, Else-not-is_tagged}

pub returns-then-keys-ne0 : goal.returns-then-keys-ne0
unfolding read_refusal
returns-then-keys-ne0 c = keys_refused _ _ _ _ c.keys_refusal-keys.ensures c.if-keys-ne0.true

-- the keys pass
keys : (c : Else-keys-ne0) → let a = c.args in Keys_taken a.store a.sealing a.tagging
keys c = let a = c.args in (keys_passed a.store a.sealing a.tagging 0 (sym c.keys_refusal-keys.ensures ∙ c.if-keys-ne0.false)).0

-- so the number is what follows
further : (c : Else-keys-ne0) {x : ℕ} → let a = c.args in let r = a.bytes.now in
    x ≡ unless (is_record r) 19 (unless (tagged (tag_under a.store a.tagging) (parts r)) 20 (unless (eqb a.destination (16 * blocks r)) 5 0))
    → x ≡ read_refusal a.store a.sealing a.tagging r a.destination
unfolding read_refusal
further c e = let a = c.args in e ∙ keys_open a.store a.sealing a.tagging _ c.keys_refusal-keys.ensures c.if-keys-ne0.false

-- the catalogue's number
abbrev number : Entry → ℕ
number e = e.number

pub returns-then-e-ne0 : goal.returns-then-e-ne0
returns-then-e-ne0 c =
    further (goal.at.returns-then-e-ne0 c).Else-keys-ne0 (rw (entry_none c.args.bytes.now (λ z. c.if-e-ne0.true (ap number c.catalogue-e.ensures ∙ z))))

-- it is a record
laid : (c : Else-e-ne0) → is_record c.args.bytes.now ≡ true
laid c = entry_zero _ (sym (ap number c.catalogue-e.ensures) ∙ c.if-e-ne0.false)

pub is_tagged-requires : goal.is_tagged-requires
is_tagged-requires c = let k = keys (goal.at.is_tagged-requires c).Else-keys-ne0 in (k.tagging_one, k.tagging_loaded, laid c)

pub returns-then-not-is_tagged : goal.returns-then-not-is_tagged
returns-then-not-is_tagged c =
    further (goal.at.returns-then-not-is_tagged c).Else-keys-ne0 (rw (laid (goal.at.returns-then-not-is_tagged c).Else-e-ne0, sym c.is_tagged.ensures ∙ c.if-not-is_tagged.true))

-- its tag is right
right : (c : Else-not-is_tagged) → let a = c.args in tagged (tag_under a.store a.tagging) (parts a.bytes.now) ≡ true
right c = sym c.is_tagged.ensures ∙ c.if-not-is_tagged.false

-- its blocks, as the catalogue counts them
count : (c : Else-e-ne0) → c.catalogue-e.result.blocks ≡ blocks c.args.bytes.now
count c =
    let e = c.catalogue-e.ensures in
    ap (λ (e : Entry). e.blocks) e ∙ entry_blocks _ (sym (ap number e) ∙ c.if-e-ne0.false)

pub overflow_mul-e : goal.overflow_mul-e
overflow_mul-e c = omega (arith, count (goal.at.overflow_mul-e c).Else-e-ne0, record_blocks _ (laid (goal.at.overflow_mul-e c).Else-e-ne0))

pub returns-then-destination-e : goal.returns-then-destination-e
returns-then-destination-e c =
    further (goal.at.returns-then-destination-e c).Else-keys-ne0 (rw (laid (goal.at.returns-then-destination-e c).Else-e-ne0, right (goal.at.returns-then-destination-e c).Else-not-is_tagged, ne_eqb _ _ (λ z. c.if-destination-e.true (z ∙ ap (λ (k : ℕ). 16 * k) (sym (count (goal.at.returns-then-destination-e c).Else-e-ne0))))))

pub returns : goal.returns
returns c =
    further (goal.at.returns c).Else-keys-ne0 (rw (laid (goal.at.returns c).Else-e-ne0, right (goal.at.returns c).Else-not-is_tagged, eq-eqb _ _ (c.if-destination-e.false ∙ ap (λ (k : ℕ). 16 * k) (count (goal.at.returns c).Else-e-ne0))))
