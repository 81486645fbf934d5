-- What was sealed by the cipher opens to the source, for every run that is taken: CBC by sound parts, CTR by any. A key that was wrapped unwraps to
-- itself, and what unwraps was wrapped, by sound parts.
-- Assumes nothing.
use mathlib.Core.Path.{◌≡◌}
use mathlib.Core.Bool.{true}
use mathlib.Core.List.{List}
use Prim.Native.Nat.{ℕ, ◌*◌}
use native.Mathlib.Omega.{arith}
use lib.ListN.{length}
use Rattle.forms.proofs.Bytes.{Bytes, Small}
use Rattle.labyrinth.specs.Cipher.{Parts}
use Rattle.labyrinth.specs.Keys.{E, U}
use Rattle.labyrinth.proofs.Undo.{Sound}
use Rattle.modes.specs.Cbc.{cbc_seal, cbc_open}
use Rattle.modes.specs.Ctr.{ctr}
use Rattle.modes.specs.KeyWrap.{wrapped, authentic, unwrapped}
use Rattle.modes.specs.Refusals.{cbc_refusal, ctr_refusal, wrap_refusal, unwrap_refusal}
use Rattle.modes.proofs.Maps.{keeps_E, undone_E, keeps_one, keeps_one_U, undone_one, undone_one_U}
use Rattle.modes.proofs.Cbc.{open_seal}
use Rattle.modes.proofs.Ctr.{ctr_ctr}
use Rattle.modes.proofs.KeyWrap.{wrapped_authentic, unwrapped_wrapped, wrapped_unwrapped}
use Rattle.modes.proofs.Refusals.{cbc_taken, ctr_taken, wrap_taken, unwrap_taken}

module _ (p : Parts) (n : ℕ) (ws start m : List ℕ) (d : ℕ) {r : ℕ} where
  pub cbc_again : Sound p → Small ws → Bytes start → Bytes m → r ≡ cbc_refusal n (length start) (length m) d → r ≡ 0
      → cbc_open (U p n ws) (16 * n) start (cbc_seal (E p n ws) (16 * n) start m) ≡ m
  cbc_again s w hs hm e z =
      let t = cbc_taken n (length start) (length m) d e z in
      open_seal (E p n ws) (U p n ws) (16 * n) (keeps_E p n ws) (undone_E p n ws s w) start m t.start hs t.whole hm

  pub ctr_again : (q : ℕ) → r ≡ ctr_refusal n (length start) (length m) d → r ≡ 0
      → ctr (E p n ws) (16 * n) start q (ctr (E p n ws) (16 * n) start q m) ≡ m
  ctr_again q e z =
      let t = ctr_taken n (length start) (length m) d e z in
      ctr_ctr (E p n ws) (16 * n) (keeps_E p n ws) start (omega (arith, t.size.pos)) q m

-- a key that is taken, wrapped: the check value is right, and it unwraps to the key
module _ (p : Parts) (n : ℕ) (ws m : List ℕ) (d : ℕ) {r : ℕ} (s : Sound p) (w : Small ws) (hm : Bytes m) (e : r ≡ wrap_refusal n (length m) d) (z : r ≡ 0) where
  pub wrap_authentic : authentic (U p n ws) (wrapped (E p n ws) m) ≡ true
  wrap_authentic =
      let t = wrap_taken n (length m) d e z in
      wrapped_authentic (E p n ws) (U p n ws) (keeps_one p n ws t.one) (undone_one p n ws t.one s w) m (omega (arith, t.low_end)) hm

  pub wrap_again : unwrapped (U p n ws) (wrapped (E p n ws) m) ≡ m
  wrap_again =
      let t = wrap_taken n (length m) d e z in
      unwrapped_wrapped (E p n ws) (U p n ws) (keeps_one p n ws t.one) (undone_one p n ws t.one s w) m (omega (arith, t.low_end)) hm

-- what is unwrapped is what wrapping makes of the key
pub unwrap_again : (p : Parts) (n : ℕ) (ws c : List ℕ) (d : ℕ) {r : ℕ} → Sound p → Small ws → Bytes c → r ≡ unwrap_refusal n (length c) d (authentic (U p n ws) c) → r ≡ 0
    → wrapped (E p n ws) (unwrapped (U p n ws) c) ≡ c
unwrap_again p n ws c d s w hc e z =
    let t = unwrap_taken n (length c) d _ e z in
    wrapped_unwrapped (E p n ws) (U p n ws) (keeps_one_U p n ws t.0.one) (undone_one_U p n ws t.0.one s w) c (omega (arith, t.0.low_end)) hc t.1
