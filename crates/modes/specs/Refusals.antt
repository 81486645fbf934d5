-- What the runs, the tags and wrapped keys turn away, with the papers' numbers in their order of checks.
-- Assumes nothing.
use Rattle.std.specs.Prelude.{◌≡◌, ℕ, ◌+◌, ◌*◌, ◌%◌, ◌≤◌, Bool, ◌&&◌, eqb, leb}
use Rattle.forms.specs.Refusals.{unless}
use Rattle.labyrinth.specs.Refusals.{legal}

-- the lengths of a CBC run: 6 if the start block isn't 16n bytes, 4 if the source isn't whole blocks, 5 if the destination isn't as long
unfoldable pub cbc_lengths : ℕ → ℕ → ℕ → ℕ → ℕ
cbc_lengths n start source destination =
    unless (eqb start (16 * n)) 6 (unless (eqb (source % (16 * n)) 0) 4 (unless (eqb destination source) 5 0))

-- the lengths of a CTR run: 6 and 5 as in CBC; any source is taken
unfoldable pub ctr_lengths : ℕ → ℕ → ℕ → ℕ → ℕ
ctr_lengths n start source destination = unless (eqb start (16 * n)) 6 (unless (eqb destination source) 5 0)

-- CBC, sealing and opening: 1 if n is illegal, then the lengths
unfoldable pub cbc_refusal : ℕ → ℕ → ℕ → ℕ → ℕ
cbc_refusal n start source destination = unless (legal n) 1 (cbc_lengths n start source destination)

-- CTR: 1 if n is illegal, then the lengths
unfoldable pub ctr_refusal : ℕ → ℕ → ℕ → ℕ → ℕ
ctr_refusal n start source destination = unless (legal n) 1 (ctr_lengths n start source destination)

-- what else a tag of so many bytes asks for (document 02): 12 if n isn't 1, then 11 if there aren't 8 to 16 bytes
unfoldable pub cmac_lengths : ℕ → ℕ → ℕ
cmac_lengths n tag = unless (eqb n 1) 12 (unless (leb 8 tag && leb tag 16) 11 0)

-- CMAC, making and verifying: 1 if n is illegal, then 12 and 11
unfoldable pub cmac_refusal : ℕ → ℕ → ℕ
cmac_refusal n tag = unless (legal n) 1 (cmac_lengths n tag)

-- whole semiblocks, from low to top bytes
unfoldable pub sized : ℕ → ℕ → ℕ → Bool
sized low top k = eqb (k % 8) 0 && (leb low k && leb k top)

-- the same in plain terms
abbrev pub Sized : ℕ → ℕ → ℕ → Type 0
Sized low top k = (k % 8 ≡ 0) × (low ≤ k) × (k ≤ top)

-- what else wrapping and unwrapping a key ask for (document 02, Job 8): 12 if n isn't 1, 17 for a source length outside low to top in steps of 8, 5
-- unless the longer of source and destination has eight bytes more; then what is left to say
unfoldable pub key_lengths : ℕ → ℕ → ℕ → ℕ → ℕ → ℕ → ℕ → ℕ
key_lengths low top n source shorter longer further =
    unless (eqb n 1) 12 (unless (sized low top source) 17 (unless (eqb longer (shorter + 8)) 5 further))

-- wrapping: 1 if n is illegal, then the lengths, for keys of 16 to 128 bytes
unfoldable pub wrap_refusal : ℕ → ℕ → ℕ → ℕ
wrap_refusal n source destination = unless (legal n) 1 (key_lengths 16 128 n source source destination 0)

-- unwrapping: 1 if n is illegal, then the lengths, from 24 to 136 bytes, then 18 unless the check value is right
unfoldable pub unwrap_refusal : ℕ → ℕ → ℕ → Bool → ℕ
unwrap_refusal n source destination right = unless (legal n) 1 (key_lengths 24 136 n source destination source (unless right 18 0))
