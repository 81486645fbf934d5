-- What the catalogue reader makes of a record that was just written.
-- Assumes nothing.
use mathlib.Core.Path.{◌≡◌, sym, ap, ap₂, ◌∙◌}
use mathlib.Core.Bool.{false}
use mathlib.Core.List.{List}
use Prim.Native.Nat.{ℕ, ◌/◌, ◌^◌, ◌<◌}
use borrow.Author.Tests.{eq-eqb, ne_eqb}
use lib.Dec.{eqb}
use lib.ListN.{length}
use Rattle.forms.specs.Lists.{when}
use Rattle.forms.specs.Refusals.{outcome}
use Rattle.forms.specs.Strings.{same}
use Rattle.forms.proofs.Strings.{same_refl}
use Rattle.labyrinth.specs.declared.WorkingKey.{WorkingKey}
use Rattle.sets.specs.declared.Store.{Store}
use Rattle.pages.specs.Pages.{Page, sealed_page, with_tag}
use Rattle.catalogue.specs.declared.Entry.{Entry}
use Rattle.catalogue.specs.Catalogue.{entry, title_part}
use Rattle.catalogue.proofs.Catalogues.{entry_yes, title_yes}
use Rattle.keyed_pages.specs.Keyed.{written}
use Rattle.keyed_pages.specs.Refusals.{write_refusal}
use Rattle.keyed_pages.proofs.Refusals.{Write_taken, write_taken}
use Rattle.keyed_pages.proofs.Trips.{written_is_record, written_parts, written_blocks}

module _ (s : Store) (sealing tagging : WorkingKey) (number day : ℕ) (title start text before : List ℕ) {r : ℕ} {m : List ℕ}
    (e : r ≡ write_refusal s sealing tagging (length title) (length start) (length text) (length before))
    (w : m ≡ outcome r (written s sealing tagging number day title start text) before) where
  abbrev refusal : ℕ
  refusal = write_refusal s sealing tagging (length title) (length start) (length text) (length before)

  -- the buffer, by the writer's number
  pub mid_holds : m ≡ outcome refusal (written s sealing tagging number day title start text) before
  mid_holds = w ∙ ap (λ (n : ℕ). outcome n (written s sealing tagging number day title start text) before) e

  -- a record that is not written
  pub entry_refused : (r ≡ 0 → ⊥)
      → ◌≡◌ {A = Entry} (record { number = r; page = 0; day = 0; blocks = 0 })
      (when (eqb refusal 0) (record { number = 0; page = number; day = day; blocks = length text / 16 }) (record { number = refusal; page = 0; day = 0; blocks = 0 }))
  entry_refused h = rw (ne_eqb refusal 0 (λ z. h (e ∙ z))) (ap (λ (n : ℕ). record { number = n; page = 0; day = 0; blocks = 0 }) e)

  pub title_refused : (r ≡ 0 → ⊥) → false ≡ eqb refusal 0
  title_refused h = sym (ne_eqb refusal 0 (λ z. h (e ∙ z)))

  -- one that is
  module _ (small : (number < 2 ^ 32) × (day < 2 ^ 32)) (z : r ≡ 0) where
    abbrev page : List ℕ
    page = written s sealing tagging number day title start text

    pub taken : Write_taken s sealing tagging (length title) (length start) (length text) (length before)
    taken = write_taken s sealing tagging (length title) (length start) (length text) (length before) e z

    pub mid_written : m ≡ page
    mid_written = w ∙ ap (λ (n : ℕ). outcome n page before) z

    written_entry : entry page ≡ record { number = 0; page = number; day = day; blocks = length text / 16 }
    unfolding sealed_page with_tag
    written_entry =
        entry_yes page (written_is_record s sealing tagging number day title start text taken small)
        ∙ ap₂ (λ (p : Page) (k : ℕ). record { number = 0; page = p.number; day = p.day; blocks = k })
        (written_parts s sealing tagging number day title start text taken small) (written_blocks s sealing tagging number day title start text taken small)

    written_title : title_part page ≡ title
    unfolding sealed_page with_tag
    written_title =
        title_yes page (written_is_record s sealing tagging number day title start text taken small)
        ∙ ap (λ (p : Page). p.title) (written_parts s sealing tagging number day title start text taken small)

    pub entry_written : {answer : Entry} → answer ≡ entry m
        → answer
        ≡ when (eqb refusal 0) (record { number = 0; page = number; day = day; blocks = length text / 16 }) (record { number = refusal; page = 0; day = 0; blocks = 0 })
    entry_written a = rw (eq-eqb refusal 0 (sym e ∙ z)) (a ∙ ap entry mid_written ∙ written_entry)

    pub title_written : {part : List ℕ} → part ≡ title_part m → same part title ≡ eqb refusal 0
    title_written a =
        ap (λ (x : List ℕ). same x title) (a ∙ ap title_part mid_written ∙ written_title) ∙ same_refl title ∙ sym (eq-eqb refusal 0 (sym e ∙ z))
