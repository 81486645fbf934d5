-- The block map by what is lent: with what is prepared it is E or U; whatever is lent, it gives whole blocks, and is not refused.
-- Assumes nothing.
use mathlib.Core.Path.{◌≡◌, sym, ap, ap₂, ◌∙◌, fun_ext}
use mathlib.Core.Bool.{Bool, true}
use mathlib.Core.List.{List}
use Prim.Native.Nat.{ℕ, ◌*◌}
use lib.ListN.{length}
use Rattle.forms.specs.Refusals.{outcome}
use Rattle.forms.specs.Words.{each_byte}
use Rattle.forms.proofs.Refusals.{outcome_cong}
use Rattle.forms.proofs.Words.{OnBytes}
use Rattle.forms.proofs.Bytes.{Bytes}
use Rattle.field.specs.Substitution.{sub}
use Rattle.field.specs.Merged.{merged}
use Rattle.field.proofs.Substitution.{table1_undo}
use Rattle.labyrinth.specs.Blocks.{load, store}
use Rattle.labyrinth.specs.Cipher.{parts_of, article, EF, IT, FT}
use Rattle.labyrinth.specs.Refusals.{block_refusal}
use Rattle.labyrinth.specs.Working.{Size, line, line_bytes, table_parts, eight_tables, wide, lookup_in, lendable, lent_refusal, way}
use Rattle.labyrinth.specs.Groups.{spaced, enter_by, leave_by, line_by, wide_lent}
use Rattle.labyrinth.specs.Lent.{Lendable, lent, Gives, Prepared, ArticlePrepared}
use Rattle.labyrinth.proofs.Sizes.{legal_size}
use Rattle.labyrinth.proofs.Blocks.{length_store, store_bytes_lem}
use Rattle.labyrinth.proofs.Refusals.{legal_iff, block_iff}
use Rattle.labyrinth.proofs.Agree.{merged_length, eight_length, narrow, eight_give, HandedOut, handed_one, handed_eight, handed_lendable, tables_agree}
use Rattle.labyrinth.proofs.Spaced.{spaced_each}
use Rattle.labyrinth.proofs.Operations.{map_way, block_way, lent_number_lem}

-- ---- what is prepared of a substitution on bytes and a row gives E (false) or U (true), with the table as it is or as eight

module _ {s₀ g : List ℕ} {back : Bool} {n : ℕ} {ws t s u ks : List ℕ} (p : Prepared s₀ g back n ws t s u ks) where
  pub one_lendable : Lendable t
  one_lendable = record { form = handed_lendable (merged_length g s₀) (handed_one p.table) }

  pub eight_lendable : {x : List ℕ} → x ≡ eight_tables t → Lendable x
  eight_lendable e = record { form = handed_lendable (merged_length g s₀) (handed_eight p.table e) }

  module _ (on_bytes : OnBytes (sub s₀)) where
    handed_gives : {x : List ℕ} → HandedOut (merged g s₀) x → Size n → Gives (way (parts_of s₀ g) back n ws) n x s u ks
    unfolding lent
    handed_gives h size = map_way (tables_agree s₀ g on_bytes p.substitution p.inverse h) back n ws p.subkeys size

    pub by_one : Size n → Gives (way (parts_of s₀ g) back n ws) n t s u ks
    by_one = handed_gives (handed_one p.table)

    pub by_eight : {x : List ℕ} → x ≡ eight_tables t → Size n → Gives (way (parts_of s₀ g) back n ws) n x s u ks
    by_eight e = handed_gives (handed_eight p.table e)

    -- so in a run, which refuses an illegal n
    pub run_by_one : (run : (List ℕ → List ℕ) → List ℕ) (old : List ℕ) {r : ℕ} {d : List ℕ} → (r ≡ 0 → Size n) → d ≡ outcome r (run (lent n t s u ks)) old
        → d ≡ outcome r (run (way (parts_of s₀ g) back n ws)) old
    run_by_one run old size e = e ∙ outcome_cong _ _ _ old (λ z. ap run (by_one (size z)))

    -- and in an operation on one block
    pub block_by_one : (src dst : List ℕ) {r : ℕ} {d : List ℕ} → r ≡ lent_refusal n (length src) (length dst) (length t) → d ≡ outcome r (lent n t s u ks src) dst
        → (r ≡ block_refusal n (length src) (length dst)) × (d ≡ outcome r (way (parts_of s₀ g) back n ws src) dst)
    unfolding lent
    block_by_one src dst number e =
        let same = number ∙ lent_number_lem n (length src) (length dst) (length t) one_lendable.form in
        (same, block_way (tables_agree s₀ g on_bytes p.substitution p.inverse (handed_one p.table)) back n ws p.subkeys src dst same e)

-- the published ones are the article's
module _ {back : Bool} {n : ℕ} {ws t s u ks : List ℕ} (p : ArticlePrepared back n ws t s u ks) where
  pub article_by_one : Size n → Gives (way article back n ws) n t s u ks
  unfolding article
  article_by_one = by_one p table1_undo.there

  pub article_run_by_one : (run : (List ℕ → List ℕ) → List ℕ) (old : List ℕ) {r : ℕ} {d : List ℕ} → (r ≡ 0 → Size n) → d ≡ outcome r (run (lent n t s u ks)) old
      → d ≡ outcome r (run (way article back n ws)) old
  unfolding article
  article_run_by_one = run_by_one p table1_undo.there

  pub article_by_eight : {x : List ℕ} → x ≡ eight_tables t → Size n → Gives (way article back n ws) n x s u ks
  unfolding article
  article_by_eight = by_eight p table1_undo.there

  pub article_block_by_one : (src dst : List ℕ) {r : ℕ} {d : List ℕ} → r ≡ lent_refusal n (length src) (length dst) (length t) → d ≡ outcome r (lent n t s u ks src) dst
      → (r ≡ block_refusal n (length src) (length dst)) × (d ≡ outcome r (way article back n ws src) dst)
  unfolding article
  article_block_by_one = block_by_one p table1_undo.there

-- ---- whatever is lent

-- a table of 256 words can be
pub table_lendable : (t : List ℕ) → length t ≡ 256 → Lendable t
unfolding lendable
table_lendable t e = record { form = ap lendable e }

module _ (n : ℕ) (t s u ks : List ℕ) where
  pub lent_length : (b : List ℕ) → length (lent n t s u ks b) ≡ 16 * n
  unfolding lent line_bytes
  lent_length b = length_store n _

  pub lent_bytes : (b : List ℕ) → Bytes (lent n t s u ks b)
  unfolding lent line_bytes
  lent_bytes b = store_bytes_lem n _

-- a block of the right lengths is mapped
pub lent_block : (n : ℕ) (x old : List ℕ) {source r : ℕ} {t d : List ℕ} → Size n → Lendable t → source ≡ 16 * n → length old ≡ 16 * n
    → r ≡ lent_refusal n source (length old) (length t) → d ≡ outcome r x old → d ≡ x
lent_block n x old {source} {r} {t} size l p q e w =
    w ∙ ap (λ (i : ℕ). outcome i x old) (e ∙ lent_number_lem n source (length old) (length t) l.form ∙ (block_iff n source (length old)).1 ((legal_iff n).0 (legal_size n size), p, q))

-- ---- in wider forms

-- the table as eight and both substitutions spaced out give the same block map
pub lent_wide : (n : ℕ) (t s u ks : List ℕ) → length t ≡ 256 → Bytes s → Bytes u → (b : List ℕ)
    → lent n t s u ks b ≡ wide_lent n (eight_tables t) (spaced s) (spaced u) ks b
unfolding wide_lent lent line_bytes line EF table_parts line_by enter_by leave_by IT FT wide
lent_wide n t s u ks e hs hu b =
    ap (λ (SM : ℕ → ℕ). store n (line_by (each_byte (sub s)) (each_byte (sub u)) SM n ks (load n b))) (fun_ext (λ w. narrow t e w ∙ sym (eight_give t w) ∙ wide_eight w))
    ∙ ap₂ (λ (W W' : ℕ → ℕ). store n (line_by W W' (lookup_in true (eight_tables t)) n ks (load n b))) (fun_ext (λ w. sym (spaced_each s hs w))) (fun_ext (λ w. sym (spaced_each u hu w)))
  where
    wide_eight : (w : ℕ) → lookup_in (wide (eight_tables t)) (eight_tables t) w ≡ lookup_in true (eight_tables t) w
    wide_eight w = rw (eight_length t)
