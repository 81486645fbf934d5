-- What the refusal of mapping many blocks says in plain terms: which number when.
-- Assumes nothing.
use mathlib.Core.Path.{◌≡◌, refl, sym, ap, ◌∙◌}
use mathlib.Core.List.{List}
use mathlib.Core.Logic.{◌↔◌}
use Prim.Native.Nat.{ℕ, ◌*◌, ◌%◌}
use lib.Dec.{eqb}
use Rattle.forms.specs.Refusals.{Unless, outcome}
use Rattle.forms.proofs.Refusals.{unless_plain, unless_four}
use Rattle.forms.proofs.Booleans.{eqb_iff}
use Rattle.labyrinth.specs.Refusals.{legal, Legal}
use Rattle.labyrinth.specs.Working.{Size}
use Rattle.labyrinth.proofs.Sizes.{legal_size}
use Rattle.labyrinth.proofs.Refusals.{legal_iff, legal_size_of}
use Rattle.many_blocks.specs.Many.{many_refusal}

-- 1 unless n is 1, 2 or 4, then 4 unless the source is whole blocks, and unless the mask is as long, then 5 unless the destination is, else 0
pub many_number : (n s k d : ℕ) {r : ℕ} → r ≡ many_refusal n s k d
    → Unless (Legal n) (r ≡ 1) (Unless (s % (16 * n) ≡ 0) (r ≡ 4) (Unless (k ≡ s) (r ≡ 4) (Unless (d ≡ s) (r ≡ 5) (r ≡ 0))))
unfolding many_refusal
many_number n s k d e =
    unless_plain (legal n) 1 _ e (legal_iff n) (λ e.
    unless_plain (eqb (s % (16 * n)) 0) 4 _ e (eqb_iff (s % (16 * n)) 0) (λ e.
    unless_plain (eqb k s) 4 _ e (eqb_iff k s) (λ e.
    unless_plain (eqb d s) 5 _ e (eqb_iff d s) (λ e. e))))

-- so blocks are mapped exactly when all four hold
pub many_iff : (n s k d : ℕ) → (many_refusal n s k d ≡ 0) ↔ (Legal n × (s % (16 * n) ≡ 0) × (k ≡ s) × (d ≡ s))
many_iff n s k d = unless_four (many_number n s k d refl)

-- what blocks that are mapped have
pub record Many_taken (n s k d : ℕ) : Type 0 where
  pub size : Size n
  pub whole : s % (16 * n) ≡ 0
  pub mask : k ≡ s
  pub same : d ≡ s

pub many_taken : (n s k d : ℕ) {r : ℕ} → r ≡ many_refusal n s k d → r ≡ 0 → Many_taken n s k d
many_taken n s k d p e =
    let h = (many_iff n s k d).0 (sym p ∙ e) in
    record { size = legal_size_of n ((legal_iff n).1 h.0); whole = h.1; mask = h.2; same = h.3 }

-- blocks of the right lengths are mapped
pub many_mapped : (n : ℕ) (x old : List ℕ) {s k d r : ℕ} {out : List ℕ} → Size n → s % (16 * n) ≡ 0 → k ≡ s → d ≡ s
    → r ≡ many_refusal n s k d → out ≡ outcome r x old → out ≡ x
many_mapped n x old {s} {k} {d} size w p q e o =
    o ∙ ap (λ (i : ℕ). outcome i x old) (e ∙ (many_iff n s k d).1 ((legal_iff n).0 (legal_size n size), w, p, q))
