-- What the modes need of a block map, and that the cipher has it: by whatever is lent, by any parts, and each way undoing the other by
-- sound ones.
-- Assumes nothing.
use mathlib.Core.Path.{◌≡◌, subst}
use mathlib.Core.List.{List}
use Prim.Native.Nat.{ℕ, ◌*◌}
use lib.ListN.{length}
use Rattle.forms.proofs.Bytes.{Bytes, Small}
use Rattle.labyrinth.specs.Cipher.{Parts}
use Rattle.labyrinth.specs.Keys.{E, U}
use Rattle.labyrinth.specs.Lent.{lent}
use Rattle.labyrinth.proofs.Undo.{Sound, U_E, E_U, length_E, length_U, bytes_E, bytes_U}
use Rattle.labyrinth.proofs.Lent.{lent_length, lent_bytes}

-- every result is a block of z bytes
pub record Keeps (z : ℕ) (e : List ℕ → List ℕ) : Type 0 where
  pub len : (b : List ℕ) → length (e b) ≡ z
  pub bytes : (b : List ℕ) → Bytes (e b)

-- u undoes e on blocks of z bytes
pub record Undone (z : ℕ) (e u : List ℕ → List ℕ) : Type 0 where
  pub back : (b : List ℕ) → length b ≡ z → Bytes b → u (e b) ≡ b

-- ---- the block map by what is lent

pub keeps_lent : (n : ℕ) (t s u ks : List ℕ) → Keeps (16 * n) (lent n t s u ks)
keeps_lent n t s u ks = record { len = lent_length n t s u ks; bytes = lent_bytes n t s u ks }

-- ---- the cipher

module _ (p : Parts) (n : ℕ) (ws : List ℕ) where
  pub keeps_E : Keeps (16 * n) (E p n ws)
  keeps_E = record { len = length_E p n ws; bytes = bytes_E p n ws }

  pub keeps_U : Keeps (16 * n) (U p n ws)
  keeps_U = record { len = length_U p n ws; bytes = bytes_U p n ws }

  pub undone_E : Sound p → Small ws → Undone (16 * n) (E p n ws) (U p n ws)
  undone_E s h = record { back = λ b. U_E p s n ws b h }

  pub undone_U : Sound p → Small ws → Undone (16 * n) (U p n ws) (E p n ws)
  undone_U s h = record { back = λ b. E_U p s n ws b h }

-- at n = 1 a block has 16 bytes
module _ (p : Parts) (n : ℕ) (ws : List ℕ) (e : n ≡ 1) where
  pub keeps_one : Keeps 16 (E p n ws)
  keeps_one = subst (λ (k : ℕ). Keeps (16 * k) (E p n ws)) e (keeps_E p n ws)

  pub keeps_one_U : Keeps 16 (U p n ws)
  keeps_one_U = subst (λ (k : ℕ). Keeps (16 * k) (U p n ws)) e (keeps_U p n ws)

  pub undone_one : Sound p → Small ws → Undone 16 (E p n ws) (U p n ws)
  undone_one s h = subst (λ (k : ℕ). Undone (16 * k) (E p n ws) (U p n ws)) e (undone_E p n ws s h)

  pub undone_one_U : Sound p → Small ws → Undone 16 (U p n ws) (E p n ws)
  undone_one_U s h = subst (λ (k : ℕ). Undone (16 * k) (U p n ws) (E p n ws)) e (undone_U p n ws s h)

pub keeps_lent_one : (n : ℕ) (t s u ks : List ℕ) → n ≡ 1 → Keeps 16 (lent n t s u ks)
keeps_lent_one n t s u ks e = subst (λ (k : ℕ). Keeps (16 * k) (lent n t s u ks)) e (keeps_lent n t s u ks)
