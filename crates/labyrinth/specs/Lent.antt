-- The code's own forms, which no reader has to believe: the block map by what is lent, a merged table t in either form, a substitution s, its inverse u and a schedule ks. Whatever stands above
-- the cipher knows no more of the four than the block map that they give.
-- Assumes nothing.
use Rattle.std.specs.Prelude.{◌≡◌, Bool, true, List, ℕ, length}
use Rattle.field.specs.Substitution.{invert}
use Rattle.field.specs.Merged.{merged}
use Rattle.field.specs.Published.{table1, row}
use Rattle.labyrinth.specs.Working.{lendable, table_parts, line_bytes, schedule}

-- the table is in one of its two forms
pub record Lendable (t : List ℕ) : Type 0 where
  pub form : lendable (length t) ≡ true

-- the block map that the four give, on blocks of 16n bytes
unfoldable pub lent : ℕ → List ℕ → List ℕ → List ℕ → List ℕ → List ℕ → List ℕ
lent n t s u ks b = line_bytes (table_parts s u t) n ks b

-- what is lent gives the block map m on blocks of 16n bytes
abbrev pub Gives : (List ℕ → List ℕ) → ℕ → List ℕ → List ℕ → List ℕ → List ℕ → Type 0
Gives m n t s u ks = lent n t s u ks ≡ m

-- the four as they are prepared of a substitution s₀, a row g and the words ws of a working key, for enciphering or, with back, deciphering
pub record Prepared (s₀ g : List ℕ) (back : Bool) (n : ℕ) (ws t s u ks : List ℕ) : Type 0 where
  pub table : t ≡ merged g s₀
  pub substitution : s ≡ s₀
  pub inverse : u ≡ invert s₀
  pub subkeys : ks ≡ schedule n ws back

-- of the published ones
abbrev pub ArticlePrepared : Bool → ℕ → List ℕ → List ℕ → List ℕ → List ℕ → List ℕ → Type 0
ArticlePrepared = Prepared table1 row
