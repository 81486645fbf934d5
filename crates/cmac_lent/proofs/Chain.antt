-- The last block of a message's chain, out of the parts that the code makes, and the tag out of it.
-- Assumes nothing.
use mathlib.Core.Path.{◌≡◌, sym, ap, ap₂, ◌∙◌}
use mathlib.Core.List.{List, ◌++◌, append-nil}
use Prim.Native.Nat.{ℕ, ◌-◌, ◌*◌, ◌/◌, ◌≤◌}
use native.Mathlib.Omega.{arith}
use lib.ListN.{length, take, drop, replicate, length-drop, drop_of_length-le}
use lib.Seq.{take_all, length-take-le}
use Rattle.forms.specs.Strings.{xor_bytes}
use Rattle.forms.specs.Mapped.{chain_last}
use Rattle.modes.specs.Cmac.{doubled, K1, K2, block_count, last_block, chain, mac, tag}
use Rattle.modes.proofs.Maps.{Keeps}
use Rattle.modes.proofs.Cmac.{chain_last_lem, front_all, mac_steps, length_mac}

-- f bytes before the last block, which make the chain c; l is the block of zeros enciphered, and b the last block under its mask
pub mac_made : (e : List ℕ → List ℕ) (m : List ℕ) (f : ℕ) {c l b r : List ℕ} → f ≡ 16 * (block_count (length m) - 1)
    → c ≡ chain_last e 16 (length (take f m) / 16) (replicate 16 0) (take f m) → l ≡ e (replicate 16 0)
    → b ≡ last_block (doubled l) (doubled (doubled l)) (take (length m - f) (drop f m)) → r ≡ e (xor_bytes c b) → r ≡ mac e m
unfolding K1 K2
mac_made e m f {c} {l} {b} {r} ef ec el eb er =
    er ∙ ap₂ (λ (x y : List ℕ). e (xor_bytes x y)) (ec ∙ chain_last_lem e (length (take f m) / 16) (replicate 16 0) (take f m) ∙ ap (λ (j : ℕ). chain e j (replicate 16 0) (take f m)) count) (eb ∙ ap₂ (λ (x y : List ℕ). last_block (doubled x) (doubled (doubled x)) y) el rest)
    ∙ ap (λ (j : ℕ). e (xor_bytes (chain e (block_count (length m) - 1) (replicate 16 0) (take j m)) (last_block (K1 e) (K2 e) (drop j m)))) ef
    ∙ sym (mac_steps e m)
  where
    count : length (take f m) / 16 ≡ block_count (length m) - 1
    count = let l : length (take f m) ≡ f = length-take-le f m (omega (arith, front_all (length m))) in omega arith

    rest : take (length m - f) (drop f m) ≡ drop f m
    rest = take_all (length m - f) (drop f m) (omega (arith, length-drop f m))

-- copied to a destination of at most 16 bytes, it is the tag
pub tag_copied : (e : List ℕ → List ℕ) (m : List ℕ) → Keeps 16 e → (dst : List ℕ) {last r : List ℕ} → length dst ≤ 16 → last ≡ mac e m
    → r ≡ take (length dst) last ++ drop (length last) dst → r ≡ tag e (length dst) m
unfolding tag
tag_copied e m k dst {last} h p w =
    w ∙ ap₂ (λ (x : List ℕ) (y : List ℕ). take (length dst) x ++ y) p (drop_of_length-le dst {i = length last} (omega (arith, ap length p, length_mac e k m)))
    ∙ append-nil (take (length dst) (mac e m))
