-- Set 0 goes its own way; else the checks, and the merged table of the set gives its word map.
-- Assumes nothing.
use Rattle.std.proofs.Common.{◌≡◌, ℕ, Bool, true, List, length, sym, refl, ap, ◌∙◌, ap₂}
use Rattle.field.specs.Merged.{merged, lookup}
use Rattle.labyrinth.specs.Cipher.{Parts, parts_of}
use Rattle.labyrinth.specs.Keys.{expanded_words}
use Rattle.labyrinth.specs.Refusals.{expand_refusal, under_length, expansion, padded}
use Rattle.labyrinth.proofs.Agree.{lookup_agrees}
use Rattle.labyrinth.proofs.Refusals.{key_taken, under_length_loaded, under_length_taken}
use Rattle.labyrinth.proofs.Expansion.{refused_is, taken_is}
use Rattle.sets.specs.declared.Set.{Set}
use Rattle.sets.specs.Sets.{substitution_in, row_in, parts_in, loaded}
use Rattle.sets.proofs.Sets.{loaded_zero, loaded_bytes, parts_zero}
use Rattle.expansion.proofs.expand.Goals as goal
use Rattle.expansion.proofs.expand.Goals.{After-under_length-number, Else-number-ne0}

pub returns-then-set-eq0 : goal.returns-then-set-eq0
returns-then-set-eq0 c =
    let a = c.args in
    let z = c.if-set-eq0.true in
    let own : ℕ = expand_refusal a.n a.l (length a.key.now) in
    c.expand_published.ensures
    ∙ ap₂ (λ (p : Parts) (i : ℕ). expansion p.SM i a.n a.l a.key.now own) (sym (parts_zero a.store a.set z)) (sym z)
    ∙ ap (expansion (parts_in a.store a.set).SM a.set a.n a.l a.key.now)
    (sym (under_length_loaded a.n a.l (loaded a.store a.set) (length a.key.now) (loaded_zero a.store a.set z)))

-- 1, 2, 15, 3
checked : (c : After-under_length-number) → let a = c.args in
    c.under_length-number.result ≡ under_length a.n a.l (loaded a.store a.set) (expand_refusal a.n a.l (length a.key.now))
checked c =
    let a = c.args in
    c.under_length-number.ensures ∙ ap₂ (λ (b : Bool) (own : ℕ). under_length a.n a.l b own) c.is_loaded.ensures c.expand_refusal-own.ensures

pub returns-then-number-ne0 : goal.returns-then-number-ne0
returns-then-number-ne0 c = refused_is _ _ _ _ _ _ (checked (goal.at.returns-then-number-ne0 c).After-under_length-number) c.if-number-ne0.true c.refused.ensures

-- a key that is taken, for a loaded set
taken : (c : Else-number-ne0) → let a = c.args in (loaded a.store a.set ≡ true) × (expand_refusal a.n a.l (length a.key.now) ≡ 0)
taken c = let a = c.args in under_length_taken a.n a.l (loaded a.store a.set) (length a.key.now) (checked (goal.at.Else-number-ne0 c).After-under_length-number) c.if-number-ne0.false

pub expand_by-requires : goal.expand_by-requires
expand_by-requires c = key_taken _ _ _ refl (taken (goal.at.expand_by-requires c).Else-number-ne0).1

pub returns : goal.returns
unfolding parts_in parts_of substitution_in row_in
returns c =
    let a = c.args in
    let s : List ℕ = substitution_in a.store a.set in
    let g : List ℕ = row_in a.store a.set in
    c.expand_by.ensures
    ∙ taken_is (parts_in a.store a.set).SM (lookup (merged g s)) (lookup_agrees s g (loaded_bytes a.store a.set (taken (goal.at.returns c).Else-number-ne0).0)) a.set a.n a.l a.key.now
    (sym (checked (goal.at.returns c).After-under_length-number) ∙ c.if-number-ne0.false)
    (ap (λ (t : List ℕ). padded (expanded_words (lookup t) a.n a.l a.key.now))
    (c.table_of-t.ensures ∙ ap (λ (v : Set). merged v.row v.substitution) c.set_in-v.ensures))
