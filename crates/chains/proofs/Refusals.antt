-- What the refusal of chaining blocks says in plain terms: which number when.
-- Assumes nothing.
use mathlib.Core.Path.{◌≡◌, refl, sym, ap, ◌∙◌}
use mathlib.Core.Logic.{◌↔◌}
use mathlib.Core.List.{List}
use Prim.Native.Nat.{ℕ, ◌*◌, ◌%◌}
use lib.Dec.{eqb}
use Rattle.forms.specs.Refusals.{Unless, outcome}
use Rattle.forms.proofs.Refusals.{unless_plain, unless_four}
use Rattle.forms.proofs.Booleans.{eqb_iff}
use Rattle.labyrinth.specs.Refusals.{legal, Legal}
use Rattle.labyrinth.specs.Working.{Size}
use Rattle.labyrinth.proofs.Sizes.{legal_size}
use Rattle.labyrinth.proofs.Refusals.{legal_iff, legal_size_of}
use Rattle.chains.specs.Chains.{chain_refusal}

-- 1 unless n is 1, 2 or 4, then 6 unless a block stands before the first, then 4 unless the source is whole blocks, then 5 unless the destination
-- is as long, else 0
pub chain_number : (n b s d : ℕ) {r : ℕ} → r ≡ chain_refusal n b s d
    → Unless (Legal n) (r ≡ 1) (Unless (b ≡ 16 * n) (r ≡ 6) (Unless (s % (16 * n) ≡ 0) (r ≡ 4) (Unless (d ≡ s) (r ≡ 5) (r ≡ 0))))
unfolding chain_refusal
chain_number n b s d e =
    unless_plain (legal n) 1 _ e (legal_iff n) (λ e.
    unless_plain (eqb b (16 * n)) 6 _ e (eqb_iff b (16 * n)) (λ e.
    unless_plain (eqb (s % (16 * n)) 0) 4 _ e (eqb_iff (s % (16 * n)) 0) (λ e.
    unless_plain (eqb d s) 5 _ e (eqb_iff d s) (λ e. e))))

-- so blocks are chained exactly when all four hold
pub chain_iff : (n b s d : ℕ) → (chain_refusal n b s d ≡ 0) ↔ (Legal n × (b ≡ 16 * n) × (s % (16 * n) ≡ 0) × (d ≡ s))
chain_iff n b s d = unless_four (chain_number n b s d refl)

-- what blocks that are chained have
pub record Chain_taken (n b s d : ℕ) : Type 0 where
  pub size : Size n
  pub start : b ≡ 16 * n
  pub whole : s % (16 * n) ≡ 0
  pub same : d ≡ s

pub chain_taken : (n b s d : ℕ) {r : ℕ} → r ≡ chain_refusal n b s d → r ≡ 0 → Chain_taken n b s d
chain_taken n b s d p e =
    let h = (chain_iff n b s d).0 (sym p ∙ e) in
    record { size = legal_size_of n ((legal_iff n).1 h.0); start = h.1; whole = h.2; same = h.3 }

-- blocks of the right lengths are chained
pub chain_made : (n : ℕ) (x old : List ℕ) {b s d r : ℕ} {out : List ℕ} → Size n → b ≡ 16 * n → s % (16 * n) ≡ 0 → d ≡ s
    → r ≡ chain_refusal n b s d → out ≡ outcome r x old → out ≡ x
chain_made n x old {b} {s} {d} size p w q e o =
    o ∙ ap (λ (i : ℕ). outcome i x old) (e ∙ (chain_iff n b s d).1 ((legal_iff n).0 (legal_size n size), p, w, q))
