-- The runs, the tags and wrapped keys depend on the used words of a working key only, by any parts.
-- Assumes nothing.
use mathlib.Core.Path.{◌≡◌}
use mathlib.Core.List.{List}
use Prim.Native.Nat.{ℕ}
use Rattle.labyrinth.specs.Cipher.{Parts}
use Rattle.labyrinth.specs.Keys.{E, U}
use Rattle.labyrinth.proofs.Agree.{SameUsed, E_used, U_used}
use Rattle.modes.specs.Cbc.{cbc_seal, cbc_open}
use Rattle.modes.specs.Ctr.{ctr}
use Rattle.modes.specs.Cmac.{tag, valid}
use Rattle.modes.specs.KeyWrap.{wrapped, authentic, unwrapped}
use Rattle.modes.proofs.Cbc.{seal_cong, open_cong}
use Rattle.modes.proofs.Ctr.{ctr_cong}
use Rattle.modes.proofs.Cmac.{tag_cong, valid_cong}
use Rattle.modes.proofs.KeyWrap.{wrapped_cong, authentic_cong, unwrapped_cong}

module _ (p : Parts) (n : ℕ) (ws vs : List ℕ) (same : SameUsed n ws vs) where
  pub seal_used : (z : ℕ) (start m : List ℕ) → cbc_seal (E p n ws) z start m ≡ cbc_seal (E p n vs) z start m
  seal_used = seal_cong (E p n ws) (E p n vs) (E_used p n ws vs same)

  pub open_used : (z : ℕ) (start s : List ℕ) → cbc_open (U p n ws) z start s ≡ cbc_open (U p n vs) z start s
  open_used = open_cong (U p n ws) (U p n vs) (U_used p n ws vs same)

  pub ctr_used : (z : ℕ) (start : List ℕ) (q : ℕ) (m : List ℕ) → ctr (E p n ws) z start q m ≡ ctr (E p n vs) z start q m
  ctr_used = ctr_cong (E p n ws) (E p n vs) (E_used p n ws vs same)

  pub tag_used : (t : ℕ) (m : List ℕ) → tag (E p n ws) t m ≡ tag (E p n vs) t m
  tag_used = tag_cong (E p n ws) (E p n vs) (E_used p n ws vs same)

  pub valid_used : (m given : List ℕ) → valid (E p n ws) m given ≡ valid (E p n vs) m given
  valid_used = valid_cong (E p n ws) (E p n vs) (E_used p n ws vs same)

  pub wrapped_used : (m : List ℕ) → wrapped (E p n ws) m ≡ wrapped (E p n vs) m
  wrapped_used = wrapped_cong (E p n ws) (E p n vs) (E_used p n ws vs same)

  pub authentic_used : (c : List ℕ) → authentic (U p n ws) c ≡ authentic (U p n vs) c
  authentic_used = authentic_cong (U p n ws) (U p n vs) (U_used p n ws vs same)

  pub unwrapped_used : (c : List ℕ) → unwrapped (U p n ws) c ≡ unwrapped (U p n vs) c
  unwrapped_used = unwrapped_cong (U p n ws) (U p n vs) (U_used p n ws vs same)
