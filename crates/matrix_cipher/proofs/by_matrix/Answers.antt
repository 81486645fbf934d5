-- Set 0 goes its own way; else the checks, and the substitution and the matrix are the set's, so the line is E or U by them.
-- Assumes nothing.
use mathlib.Core.Path.{◌≡◌, sym, ap, ◌∙◌}
use mathlib.Core.Bool.{Bool}
use lib.ListN.{length}
use Rattle.forms.proofs.Refusals.{refused_keeps}
use Rattle.field.specs.Mixing.{matrix}
use Rattle.labyrinth.specs.Cipher.{Parts}
use Rattle.labyrinth.specs.Refusals.{under_key, block_refusal}
use Rattle.labyrinth.specs.Working.{way}
use Rattle.labyrinth.proofs.Refusals.{under_refused, under_taken, block_one}
use Rattle.labyrinth.proofs.Agree.{matrix_agrees}
use Rattle.labyrinth.proofs.Operations.{block_way}
use Rattle.sets.specs.declared.Set.{Set}
use Rattle.sets.specs.Sets.{substitution_in, row_in, parts_in, loaded}
use Rattle.substitutions.specs.Inverse.{inverse_bytes}
use Rattle.sets.proofs.Sets.{loaded_different, inverse_made, published_answer}
use Rattle.matrix_cipher.proofs.by_matrix.Goals as goal
use Rattle.matrix_cipher.proofs.by_matrix.Goals.{After-under_key-number}

pub returns-then-k-eq0 : goal.returns-then-k-eq0
returns-then-k-eq0 c =
    let a = c.args in
    let mapped = c.by_published.ensures in
    let both = published_answer a.store a.k.set a.k.n (λ (p : Parts). way p a.back a.k.n a.k.words a.src.now) a.dst.now c.if-k-eq0.true
    (block_one a.k.n (length a.src.now) (length a.dst.now)) mapped.number mapped.block in record { number = both.0; block = both.1 }

-- 1, then 15
checked : (c : After-under_key-number) → let a = c.args in c.under_key-number.result ≡ under_key a.k.n (loaded a.store a.k.set) 0
checked c = c.under_key-number.ensures ∙ ap (λ (b : Bool). under_key c.args.k.n b 0) c.is_loaded.ensures

pub returns-then-number-ne0 : goal.returns-then-number-ne0
returns-then-number-ne0 c = record { number = under_refused _ _ _ (checked (goal.at.returns-then-number-ne0 c).After-under_key-number) c.if-number-ne0.true; block = refused_keeps _ _ _ c.if-number-ne0.true }

pub returns : goal.returns
unfolding parts_in substitution_in row_in
returns c =
    let a = c.args in
    let applied = c.apply_matrix.ensures in
    let found = under_taken _ _ (block_refusal a.k.n (length a.src.now) (length a.dst.now)) (checked (goal.at.returns c).After-under_key-number) c.if-number-ne0.false in
    let v = c.set_in-v.ensures in record {
      number = applied.number ∙ sym found.1;
      block = block_way
          (matrix_agrees (substitution_in a.store a.k.set) (row_in a.store a.k.set) (ap (λ (v : Set). v.substitution) v)
          (c.inverse-u.ensures ∙ ap (λ (v : Set). inverse_bytes v.substitution) v ∙ inverse_made (substitution_in a.store a.k.set) (loaded_different a.store a.k.set found.0))
          (c.matrix-m.ensures ∙ ap (λ (v : Set). matrix v.row) v))
          a.back a.k.n a.k.words c.schedule-keys.ensures a.src.now a.dst.now applied.number applied.block;
    }
