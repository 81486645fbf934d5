-- The cipher's transformations (the article's sections 3.2 to 3.6 and 3.9), over the substitution and the mixing that it is given.
-- Assumes nothing.
use Rattle.std.specs.Prelude.{ℕ, zero, suc, ◌+◌, ◌-◌, ◌*◌, ◌%◌, List, get_or}
use Rattle.std.specs.Int.Bits.{bit_xor}
use Rattle.forms.specs.Lists.{tabulate}
use Rattle.forms.specs.Words.{rotl, rotr, each_byte, words, bytes}
use Rattle.field.specs.Substitution.{sub, sub_inv}
use Rattle.field.specs.Mixing.{mix}
use Rattle.field.specs.Published.{table1, row, constants}
use Rattle.labyrinth.specs.Blocks.{Block, plus, minus, each, zip}

-- 3.7 to 3.9: what the cipher is made of: S on a byte, its inverse, and S on each byte of a word followed by mixing
pub record Parts : Type 0 where
  pub S : ℕ → ℕ
  pub S⁻¹ : ℕ → ℕ
  pub SM : ℕ → ℕ

-- the parts by a substitution s and a row g; the article's are those of Table 1 and its g(x)
unfoldable pub parts_of : List ℕ → List ℕ → Parts
parts_of s g = record { S = sub s; S⁻¹ = sub_inv s; SM = λ w. mix g (each_byte (sub s) w) }

unfoldable pub article : Parts
article = parts_of table1 row

-- 3.6: byte i of P(n) is taken from byte 9i mod 8n
unfoldable pub P : ℕ → List ℕ → List ℕ
P n x = words n (tabulate (8 * n) (λ i. get_or (bytes n x) (9 * i % (8 * n)) 0))

-- 3.9: SL at word t; SM is its steps 1 and 2
unfoldable pub SL : (ℕ → ℕ) → ℕ → ℕ → ℕ
SL SM t w = bit_xor (SM w) (get_or constants t 0)

-- 3.3: F under the subkey k
unfoldable pub F : (ℕ → ℕ) → ℕ → List ℕ → List ℕ → List ℕ
F SM n k x = let y = P n (zip n plus x k) in tabulate n (λ t. SL SM t (get_or y t 0))

-- 3.4: Sigma_j is L_j XOR R_j, and Sigma_0 is rotated left by 28
unfoldable pub sigma : Block → ℕ → ℕ
sigma s zero = rotl (bit_xor (get_or s.0 0 0) (get_or s.1 0 0)) 28
sigma s (suc j) = bit_xor (get_or s.0 (suc j) 0) (get_or s.1 (suc j) 0)

-- 3.4: L_j and R_j, each XOR Sigma at (j - 1) mod n
unfoldable pub IMix : ℕ → Block → Block
IMix n s =
    let m = tabulate n (λ j. sigma s ((j + n - 1) % n)) in
    (zip n bit_xor s.0 m, zip n bit_xor s.1 m)

-- 3.5: IT under the key k, in its four steps
unfoldable pub IT : (ℕ → ℕ) → ℕ → Block → Block → Block
IT S n k p =
    let t : Block = (zip n plus p.0 k.0, zip n plus p.1 k.1) in
    let u : Block = (each n (each_byte S) t.0, each n (each_byte S) t.1) in
    let v : Block = (each n (λ w. rotl w 2) u.0, each n (λ w. rotr w 2) u.1) in
    IMix n v

-- 3.5: FT under the key k, in its four steps
unfoldable pub FT : (ℕ → ℕ) → ℕ → Block → Block → Block
FT S⁻¹ n k s =
    let u : Block = IMix n s in
    let v : Block = (each n (λ w. rotr w 2) u.0, each n (λ w. rotl w 2) u.1) in
    let t : Block = (each n (each_byte S⁻¹) v.0, each n (each_byte S⁻¹) v.1) in
    (zip n minus t.0 k.0, zip n minus t.1 k.1)

-- 3.2: one iteration: new R is L XOR F(R), new L is R
unfoldable pub round : (ℕ → ℕ) → ℕ → List ℕ → Block → Block
round SM n k s = (s.1, zip n bit_xor s.0 (F SM n k s.1))

-- 3.2: the halves after i iterations under the subkeys K^(0), K^(1), ..
unfoldable pub rounds : (ℕ → ℕ) → ℕ → (ℕ → List ℕ) → ℕ → Block → Block
rounds SM n K zero s = s
rounds SM n K (suc i) s = round SM n (K i) (rounds SM n K i s)

-- 3.2: the halves change places
abbrev pub exchange : Block → Block
exchange s = (s.1, s.0)

-- 3.2: the procedure EF under K^IT, the sixteen K^(i) and K^FT
unfoldable pub EF : Parts → ℕ → Block → (ℕ → List ℕ) → Block → Block → Block
EF p n kIT K kFT s = FT p.S⁻¹ n kFT (exchange (rounds p.SM n K 16 (IT p.S n kIT s)))
