-- The change requests of document 02 that have landed, sentence by sentence, as Demands has the user's demands.
-- Assumes nothing.
use Rattle.std.specs.Prelude.{◌≡◌, Bool, true, false, ◌⊎◌, ◌↔◌, List, [], ◌∷◌, ◌++◌, ℕ, ◌+◌, ◌-◌, ◌*◌, ◌%◌, ◌^◌, ◌≤◌, ◌<◌, length, get_or, take, drop, replicate}
use Rattle.std.specs.Int.Bits.{bit_xor}
use Rattle.std.specs.Int.Count.{count_leading_zeros}
use Rattle.forms.specs.Lists.{over, iterate}
use Rattle.forms.specs.Words.{rotl, each_byte}
use Rattle.forms.specs.Refusals.{Unless, outcome, first_of}
use Rattle.forms.specs.Strings.{number}
use Rattle.field.specs.Field.{mul, power, poly_mul}
use Rattle.field.specs.Substitution.{sub, Different}
use Rattle.field.specs.Mixing.{mix, product, row_sum, scale}
use Rattle.field.specs.Merged.{merged, lookup}
use Rattle.field.specs.Published.{table1, row}
use Rattle.arithmetic.specs.declared.Product.{Product}
use Rattle.arithmetic.specs.BitLength.{bit_length}
use Rattle.rows.specs.declared.Mixed.{Mixed}
use Rattle.rows.specs.declared.Inverted.{Inverted}
use Rattle.rows.specs.Rows.{row_refusal, table_refusal, mixed}
use Rattle.rows.specs.Inverse.{Row, neutral, inverse_row, inverted}
use Rattle.judge.specs.declared.Verdict.{Verdict}
use Rattle.judge.specs.Judge.{together, GoodEnough, FallsShort}
use Rattle.labyrinth.specs.declared.WorkingKey.{WorkingKey}
use Rattle.labyrinth.specs.declared.Expanded.{Expanded}
use Rattle.labyrinth.specs.Cipher.{Parts, article}
use Rattle.labyrinth.specs.Keys.{E, U, expanded_words}
use Rattle.labyrinth.specs.Refusals.{Legal, LegalLength, block_refusal, expand_refusal, under_key, under_length, padded, expansion}
use Rattle.sets.specs.declared.Set.{Set}
use Rattle.sets.specs.declared.Store.{Store}
use Rattle.sets.specs.declared.Changed.{Changed}
use Rattle.sets.specs.Sets.{parts_in, loaded, Loaded, Held, fresh_store, with_set, with_taken, load}
use Rattle.sets.specs.Sets as store
use Rattle.publishers.specs.Calls.{Use, Call, loads, takes, uses, answer, after}
use Rattle.publishers.specs.Calls as calls
use Rattle.publishers.specs.Pages.{Bytes, Words, SameSet}
use Rattle.modes.specs.Cmac.{K1, K2, tag}
use Rattle.modes.specs.Gf128.{Remainder}
use Rattle.modes.specs.Cbc.{cbc_seal, cbc_open}
use Rattle.modes.specs.Ctr.{ctr}
use Rattle.modes.specs.KeyWrap.{W⁻¹, wrapped, authentic, unwrapped}
use Rattle.modes.specs.Refusals.{cbc_refusal, ctr_refusal, cmac_refusal, wrap_refusal, unwrap_refusal}
use Rattle.cmac.specs.declared.Verified.{Verified}
use Rattle.cmac.specs.Verification.{verification}
use Rattle.tape_rules.specs.declared.Tape.{Tape}
use Rattle.tape_rules.specs.declared.Stepped.{Stepped}
use Rattle.tape_rules.specs.Steps.{Answer, ended}
use Rattle.tape_rules.specs.Plain.{UnknownCommand}
use Rattle.tape_run.specs.declared.Answered.{Answered}
use Rattle.tape_run.specs.Runs.{joined, tape_steps, last_answer, last_rest}
use Rattle.promise.specs.Demands.{KeyNumber, BlockNumber, CbcNumber, CtrNumber, Kept, Steps, WorksTape}

-- ---- Job 1: a tag on each page

-- "Add the tag of NIST SP 800-38B (CMAC) at n = 1, made and verified, over messages of any length, the empty one too." "Tags are the first 8 to
-- 16 bytes; making fills the destination, whose length is the tag's."
abbrev pub MakesTag : WorkingKey → List ℕ → ℕ → List ℕ → List ℕ → Type 0
MakesTag k message answer before after =
    (answer ≡ cmac_refusal k.n (length before)) × (after ≡ outcome answer (tag (E article k.n k.words) (length before) message) before)

abbrev pub VerifiesTag : WorkingKey → List ℕ → List ℕ → Verified → Type 0
VerifiesTag k message given answer = answer ≡ verification (E article k.n k.words) message given (cmac_refusal k.n (length given))

-- "The two derived masks use the constant 87 hexadecimal": L, the block of zeros enciphered, K1 and K2 are each x times the one before, modulo
-- x^128 + x^7 + x^2 + x + 1, and a polynomial has one remainder only
abbrev pub Doubles : List ℕ → List ℕ → Type 0
Doubles x y = Remainder (poly_mul 2 (number x) 2) (number y)

abbrev pub MasksDoubled : Type 0
MasksDoubled = (ws : List ℕ) → let e = E article 1 ws in Doubles (e (replicate 16 0)) (K1 e) × Doubles (K1 e) (K2 e)

abbrev pub OneRemainder : Type 0
OneRemainder = (a r s : ℕ) → Remainder a r → Remainder a s → r ≡ s

-- "Verifying says yes if and only if the given tag equals those first bytes." A refusal is a no.
abbrev pub YesExactly : WorkingKey → List ℕ → List ℕ → Verified → Type 0
YesExactly k message given answer = (answer.yes ≡ true) ↔ ((answer.number ≡ 0) × (given ≡ tag (E article k.n k.words) (length given) message))

-- and of the operations themselves: a tag made in a buffer and verified there gets a yes, unless it was refused
abbrev pub GetsYes : ℕ → Verified → Type 0
GetsYes refusal answer = (answer.number ≡ refusal) × ((answer.yes ≡ true) ↔ (refusal ≡ 0))

-- "It refuses a working key of legal n other than 1 with 12, after 1; and then a tag length outside 8 to 16 with 11, and nothing else."
abbrev pub TagNumber : ℕ → ℕ → ℕ → Type 0
TagNumber n size number =
    Unless (Legal n) (number ≡ 1) (Unless (n ≡ 1) (number ≡ 12) (Unless ((8 ≤ size) × (size ≤ 16)) (number ≡ 11) (number ≡ 0)))

abbrev pub TagsTaken : Type 0
TagsTaken = (n size number : ℕ) → TagNumber n size number → (number ≡ 0) ↔ ((n ≡ 1) × (8 ≤ size) × (size ≤ 16))

-- with document 01's rule for what a refusal leaves, or returns beside its number: "only zeros, a no or an empty part"
abbrev pub AnswersTag : WorkingKey → ℕ → List ℕ → List ℕ → Type 0
AnswersTag k number before after = TagNumber k.n (length before) number × Kept number before after

abbrev pub AnswersVerifying : WorkingKey → List ℕ → Verified → Type 0
AnswersVerifying k given answer = TagNumber k.n (length given) answer.number × ((answer.number ≡ 0 → ⊥) → answer.yes ≡ false)

-- ---- Job 2: a tape copied short

-- "From now on only command 00 ends a tape well. A rest of length 0 in a state that has not ended answers 8: it writes that byte, takes none
-- and ends."
abbrev pub EmptyRest : Type 0
EmptyRest =
    (t : Tape) (answer : Stepped) (before after : List ℕ) → Steps t [] answer before after → length before ≡ 65 → t.ended ≡ false
    → (answer ≡ record { number = 8; taken = 0; written = 1; next = ended t }) × (after ≡ over (8 ∷ []) before)

-- an ended state gives 0 and nothing as before, and 5 comes first as before
abbrev pub EndedState : Type 0
EndedState =
    (t : Tape) (rest : List ℕ) (answer : Stepped) (before after : List ℕ) → Steps t rest answer before after → length before ≡ 65 → t.ended ≡ true
    → (answer ≡ record { number = 0; taken = 0; written = 0; next = ended t }) × (after ≡ before)

abbrev pub FiveFirst : Type 0
FiveFirst =
    (t : Tape) (rest : List ℕ) (answer : Stepped) (before after : List ℕ) → Steps t rest answer before after → (length before ≡ 65 → ⊥)
    → (answer ≡ record { number = 5; taken = 0; written = 0; next = t }) × (after ≡ before)

-- "The example tape in document 01 keeps its output. The empty tape, which gave no bytes, now gives 08."
abbrev pub example : List ℕ
example = 0x05 ∷ 0x01 ∷ replicate 7 0x00 ++ (0x03 ∷ replicate 64 0x00 ++ (0x01 ∷ 0x03 ∷ 0x02 ∷ replicate 128 0x00 ++ (0x7F ∷ [])))

-- bytes that a tape is answered with, by every run into a buffer of 65,537 bytes
abbrev pub Gets : List ℕ → List ℕ → Type 0
Gets tape bytes =
    (answer : Answered) (before after : List ℕ) → WorksTape tape answer before after → length before ≡ 65537
    → (answer ≡ record { number = 0; length = length bytes }) × (after ≡ over bytes before)

abbrev pub ExampleKept : Type 0
ExampleKept = Gets example (0x00 ∷ 0x01 ∷ 0x01 ∷ 0x03 ∷ 0x0F ∷ 0x0A ∷ 0x1F ∷ 0x0F ∷ 0x0C ∷ 0x09 ∷ 0x01 ∷ 0x07 ∷ [])

abbrev pub EmptyTape : Type 0
EmptyTape = Gets [] (0x08 ∷ [])

-- what a tape's run was ended by: the command byte c at which its last step begins
abbrev pub EndedBy : List ℕ → ℕ → Type 0
EndedBy tape c = take 1 (last_rest tape (tape_steps tape)) ≡ c ∷ []

-- of a run that is answered 0, so of a tape of at most 65,536 bytes: the bytes written are those of its steps, one after another; it was ended by 00
-- exactly when its last answer, that of the last step that wrote, is neither 7 nor 8; and, for operators, that answer is 8 exactly when neither 00
-- nor an unknown command ended the run, and then the bytes end with 08 (they may end so without it too, since data may)
abbrev pub TellsItsEnd : List ℕ → Answered → List ℕ → Type 0
TellsItsEnd tape answer after =
    answer.number ≡ 0 → let written = take answer.length after in
    (written ≡ joined (tape_steps tape))
    × (EndedBy tape 0x00 ↔ ((last_answer tape ≡ 7 → ⊥) × (last_answer tape ≡ 8 → ⊥)))
    × ((last_answer tape ≡ 8) ↔ ((c : ℕ) → EndedBy tape c → (c ≡ 0x00) ⊎ UnknownCommand c → ⊥))
    × (last_answer tape ≡ 8 → drop (answer.length - 1) written ≡ 8 ∷ [])

-- there is one 8 at most: a step with that number writes it alone, and is the last
abbrev pub OneEight : Type 0
OneEight =
    (tape : List ℕ) (before : List Answer) (a : Answer) (behind : List Answer) → tape_steps tape ≡ before ++ (a ∷ behind) → a.number ≡ 8
    → (a.written ≡ 8 ∷ []) × (behind ≡ [])

-- a copy from which bytes at the end are missing: if its last answer isn't 8, it is answered as the whole tape is, step for step
abbrev pub NothingLost : Type 0
NothingLost = (copy missing : List ℕ) → (last_answer copy ≡ 8 → ⊥) → tape_steps (copy ++ missing) ≡ tape_steps copy

-- and if the command is missing at which the run of the whole tape ends, the copy's last answer is 8: so for every tape that ends in the 00 that
-- ends its run, and every copy that is shorter
abbrev pub ShortTold : Type 0
ShortTold =
    (copy missing : List ℕ) → length (last_rest (copy ++ missing) (tape_steps (copy ++ missing))) ≤ length missing
    → last_answer copy ≡ 8

-- ---- Job 3: field products that stop when done

-- "the published coefficients have at most five bits"
abbrev pub ShortCoefficients : Type 0
ShortCoefficients = (i : ℕ) → i < 8 → bit_length 8 (get_or row i 0) ≤ 5

-- "let the loop end after the multiplier's highest one, found from its count of leading zeros": of eight bits the leading zeros leave the bit
-- length, which is at most m exactly when the multiplier is below 2 ^ m
abbrev pub EndsAfterHighestOne : Type 0
EndsAfterHighestOne = (b : ℕ) → b < 2 ^ 8 → (bit_length 8 b ≡ 8 - count_leading_zeros 8 b) × ((m : ℕ) → (bit_length 8 b ≤ m) ↔ (b < 2 ^ m))

-- "The turns, counted in the loop, come back beside the product": for any two bytes. "Callers answer as before, and nothing promised about the
-- product alters": it is `mul`, and mixing is `mix row`, as in Demands
abbrev pub Multiplies : ℕ → ℕ → Product → Type 0
Multiplies a b answer = (answer.value ≡ mul a b) × (answer.turns ≡ bit_length 8 b)

-- "five for 1F, eight for 80, none for 00"
abbrev pub TurnsNamed : Type 0
TurnsNamed = (bit_length 8 0x1F ≡ 5) × (bit_length 8 0x80 ≡ 8) × (bit_length 8 0x00 ≡ 0)

-- ---- Job 4: the mixing row as an argument

-- "Mixing and the merged table take a row of eight coefficients; the field stays 12D."
abbrev pub MixesBy : List ℕ → ℕ → Mixed → Type 0
MixesBy g w answer = answer ≡ mixed g w (row_refusal g)

abbrev pub MakesTable : List ℕ → ℕ → List ℕ → List ℕ → Type 0
MakesTable g answer before after = (answer ≡ table_refusal g (length before)) × (after ≡ outcome answer (merged g table1) before)

-- "Every present caller hands in the published row and keeps its answers": that row gets 0 and the word that `mix row` gives, as in Demands; and
-- a table made for it is the one that the engine by table is lent
abbrev pub MixesAsBefore : List ℕ → ℕ → Mixed → Type 0
MixesAsBefore g w answer = g ≡ row → answer ≡ record { number = 0; word = mix row w }

abbrev pub MakesTheTableLent : List ℕ → List ℕ → List ℕ → List ℕ → Type 0
MakesTheTableLent g before after lent = g ≡ row → length before ≡ 256 → after ≡ lent

-- "For another row the eightfold mixing multiplies by the eighth power of the XOR of its coefficients instead of by 46"; and demand 3's other two
-- laws of mixing. By a row: the word that mixing answers
abbrev pub by : List ℕ → ℕ → ℕ
by g w = (mixed g w (row_refusal g)).word

abbrev pub EightTimesByRow : Type 0
EightTimesByRow = (g : List ℕ) → row_refusal g ≡ 0 → (w : ℕ) → iterate 8 (by g) w ≡ scale (power (row_sum g) 8) w

abbrev pub PublishedPower : Type 0
PublishedPower = power (row_sum row) 8 ≡ 0x46

abbrev pub XorByRow : Type 0
XorByRow = (g : List ℕ) → row_refusal g ≡ 0 → (a b : ℕ) → by g (bit_xor a b) ≡ bit_xor (by g a) (by g b)

abbrev pub RotatedByRow : Type 0
RotatedByRow = (g : List ℕ) → row_refusal g ≡ 0 → (w k : ℕ) → w < 2 ^ 64 → k ≤ 8 → by g (rotl w (8 * k)) ≡ rotl (by g w) (8 * k)

-- look-up in a table made for a row is mixing, by that row, of the substituted word
abbrev pub LooksUp : List ℕ → ℕ → List ℕ → Type 0
LooksUp g answer after = answer ≡ 0 → (w : ℕ) → lookup after w ≡ by g (each_byte (sub table1) w)

-- and of the operations themselves: the word found in a table lent for look-up, which was made by an accepted call
abbrev pub FindsMixed : List ℕ → ℕ → List ℕ → List ℕ → ℕ → ℕ → Type 0
FindsMixed g answer after lent w found = answer ≡ 0 → lent ≡ after → found ≡ by g (each_byte (sub table1) w)

-- "Mixing, which took every value until now, and the table refuse a row whose coefficients XOR to zero with 13, returning the zero word or leaving
-- the table buffer as it was; then a table buffer that isn't 256 words with 5."
abbrev pub AnswersMixing : List ℕ → ℕ → Mixed → Type 0
AnswersMixing g w answer =
    ((answer.number ≡ 13) × (answer.word ≡ 0) × (row_sum g ≡ 0)) ⊎ ((answer.number ≡ 0) × (answer.word ≡ mix g w) × (row_sum g ≡ 0 → ⊥))

abbrev pub TableNumber : List ℕ → ℕ → ℕ → Type 0
TableNumber g room number =
    ((number ≡ 13) × (row_sum g ≡ 0))
    ⊎ (((number ≡ 5) × (row_sum g ≡ 0 → ⊥) × (room ≡ 256 → ⊥)) ⊎ ((number ≡ 0) × (row_sum g ≡ 0 → ⊥) × (room ≡ 256)))

abbrev pub AnswersTable : List ℕ → ℕ → List ℕ → List ℕ → Type 0
AnswersTable g number before after = TableNumber g (length before) number × Kept number before after

-- ---- Job 5: rows multiply

-- "mixing by row g and then by row h is mixing by their product modulo x^8 + 1": of the article's mixing; and of the words that the operation
-- answers (`by`, above), those of refused rows too
abbrev pub OneAfterAnother : Type 0
OneAfterAnother = (g h : List ℕ) (w : ℕ) → mix h (mix g w) ≡ mix (product g h) w

abbrev pub OneAnswerAfterAnother : Type 0
OneAnswerAfterAnother = (g h : List ℕ) → Row g → Row h → (w : ℕ) → by h (by g w) ≡ by (product g h) w

-- a product is accepted exactly where both rows are
abbrev pub AcceptedTogether : Type 0
AcceptedTogether = (g h : List ℕ) → Row g → Row h → (row_refusal (product g h) ≡ 0) ↔ ((row_refusal g ≡ 0) × (row_refusal h ≡ 0))

-- the operation that multiplies two rows, whichever they are
abbrev pub MultipliesRows : List ℕ → List ℕ → List ℕ → Type 0
MultipliesRows g h answer = answer ≡ product g h

-- "that the order doesn't matter"
abbrev pub OrderFree : Type 0
OrderFree = (g h : List ℕ) → (product g h ≡ product h g) × ((w : ℕ) → mix h (mix g w) ≡ mix g (mix h w))

-- "and that rows accepted since Job 4 each have exactly one inverse row, which is worked out and returned (13 for other rows)": a row whose product
-- with g is the neutral row; other rows have none
abbrev pub Inverts : List ℕ → Inverted → Type 0
Inverts g answer = answer ≡ inverted g (row_refusal g)

abbrev pub InverseOf : List ℕ → List ℕ → Type 0
InverseOf g h = Row h × (product g h ≡ neutral)

abbrev pub AnswersInverse : List ℕ → Inverted → Type 0
AnswersInverse g answer =
    ((answer.number ≡ 13) × (answer.row ≡ replicate 8 0x00) × (row_sum g ≡ 0) × ((h : List ℕ) → InverseOf g h → ⊥))
    ⊎ ((answer.number ≡ 0) × InverseOf g answer.row × (row_sum g ≡ 0 → ⊥) × ((h : List ℕ) → InverseOf g h → h ≡ answer.row))

-- for any row of eight bytes
abbrev pub OneInverse : Type 0
OneInverse = (g : List ℕ) (answer : Inverted) → Row g → Inverts g answer → AnswersInverse g answer

abbrev pub PublishedInverse : Type 0
PublishedInverse = inverse_row row ≡ 0x35 ∷ 0xC0 ∷ 0xC7 ∷ 0xA9 ∷ 0x9E ∷ 0xC6 ∷ 0x2E ∷ 0xF3 ∷ []

-- "Grouping of three rows may be changed freely."
abbrev pub GroupingFree : Type 0
GroupingFree = (f g h : List ℕ) → Row f → product (product f g) h ≡ product f (product g h)

-- "Expect the row 01 and seven 00 to change no word."
abbrev pub ChangesNoWord : Type 0
ChangesNoWord = (neutral ≡ 0x01 ∷ replicate 7 0x00) × ((w : ℕ) → w < 2 ^ 64 → by neutral w ≡ w)

abbrev pub ChangesNoRow : Type 0
ChangesNoRow = (g : List ℕ) → Row g → (product g neutral ≡ g) × (product neutral g ≡ g)

-- so mixing by a row and by its inverse row, in either order, gives the word back
abbrev pub WordBack : Type 0
WordBack =
    (g : List ℕ) → Row g → row_refusal g ≡ 0 → (w : ℕ) → w < 2 ^ 64
    → let k = (inverted g (row_refusal g)).row in (by k (by g w) ≡ w) × (by g (by k w) ≡ w)

-- "The archive with its own row converts old pages by mixing with one row after another": from an accepted row to another row by its inverse row and
-- that row, or by their product at once
abbrev pub Converts : Type 0
Converts =
    (g h : List ℕ) → Row g → Row h → row_refusal g ≡ 0 → (w : ℕ) → w < 2 ^ 64
    → let k = (inverted g (row_refusal g)).row in (by h (by k (by g w)) ≡ by h w) × (by (product k h) (by g w) ≡ by h w)

-- and of the operations themselves, called one after another for a word mixed by g: it is mixed by h then, or the first refusal is answered
abbrev pub ConvertsWord : List ℕ → List ℕ → ℕ → Mixed → Type 0
ConvertsWord g h w answer = answer ≡ mixed h w (first_of (row_refusal g) (row_refusal h))

-- ---- Job 6: is a row good enough?

-- "The article wants nine active bytes at least: for every word that isn't zero, its non-zero bytes before and after mixing together number nine or
-- more. Mixing here is the matrix product, for rows that Job 4 refuses too." `GoodEnough`, of any row; `FallsShort`, of a word that hasn't nine.
-- "Build a judge for any eight coefficients. It says yes precisely when all words meet this, and with a no it shows one word that falls short (any
-- will do; with a yes, the zero word)."
abbrev pub Judges : List ℕ → Verdict → Type 0
Judges g answer =
    ((answer.yes ≡ true) ↔ GoodEnough g) × (answer.yes ≡ true → answer.word ≡ 0) × (answer.yes ≡ false → FallsShort g answer.word)

-- so two verdicts on one row are the same, but for the word that a no shows
abbrev pub OneVerdict : Type 0
OneVerdict = (g : List ℕ) (u v : Verdict) → Judges g u → Judges g v → (u.yes ≡ v.yes) × (u.yes ≡ true → u.word ≡ v.word)

-- "It takes every row, the zero row too." Here and by the row that changes nothing the word 1 falls short
abbrev pub ZeroRowShort : Type 0
ZeroRowShort = FallsShort (replicate 8 0x00) 1

abbrev pub NeutralShort : Type 0
NeutralShort = FallsShort neutral 1

-- a row that is good enough is one that mixing accepts; the converse doesn't hold, as the neutral row shows
abbrev pub GoodAccepted : Type 0
GoodAccepted = (g : List ℕ) → Row g → GoodEnough g → row_refusal g ≡ 0

-- and no row does better than nine
abbrev pub NineAtMost : Type 0
NineAtMost = (g : List ℕ) → together g 1 ≤ 9

-- ---- Job 7: two publishers, one set of tables

-- "The working key's record now names its set, and expansion and block operations use that set." Of an operation under a working key: own is the
-- number that it answers for a loaded set, result what it gives by a set's tables
abbrev pub UsesSet : Store → WorkingKey → ℕ → (Parts → List ℕ) → ℕ → List ℕ → List ℕ → Type 0
UsesSet store k own result number before after =
    (number ≡ under_key k.n (loaded store k.set) own) × (after ≡ outcome number (result (parts_in store k.set)) before)

abbrev pub ExpandsFor : Store → ℕ → ℕ → ℕ → List ℕ → Expanded → Type 0
ExpandsFor store n l i key answer =
    answer ≡ expansion (parts_in store i).SM i n l key (under_length n l (loaded store i) (expand_refusal n l (length key)))

abbrev pub EnciphersIn : Store → WorkingKey → List ℕ → ℕ → List ℕ → List ℕ → Type 0
EnciphersIn store k source number before after =
    UsesSet store k (block_refusal k.n (length source) (length before)) (λ p. E p k.n k.words source) number before after

abbrev pub DeciphersIn : Store → WorkingKey → List ℕ → ℕ → List ℕ → List ℕ → Type 0
DeciphersIn store k source number before after =
    UsesSet store k (block_refusal k.n (length source) (length before)) (λ p. U p k.n k.words source) number before after

abbrev pub SealsCbcIn : Store → WorkingKey → List ℕ → List ℕ → ℕ → List ℕ → List ℕ → Type 0
SealsCbcIn store k start source number before after =
    UsesSet store k (cbc_refusal k.n (length start) (length source) (length before))
    (λ p. cbc_seal (E p k.n k.words) (16 * k.n) start source) number before after

abbrev pub OpensCbcIn : Store → WorkingKey → List ℕ → List ℕ → ℕ → List ℕ → List ℕ → Type 0
OpensCbcIn store k start source number before after =
    UsesSet store k (cbc_refusal k.n (length start) (length source) (length before))
    (λ p. cbc_open (U p k.n k.words) (16 * k.n) start source) number before after

abbrev pub RunsCtrIn : Store → WorkingKey → List ℕ → ℕ → List ℕ → ℕ → List ℕ → List ℕ → Type 0
RunsCtrIn store k start q source number before after =
    UsesSet store k (ctr_refusal k.n (length start) (length source) (length before))
    (λ p. ctr (E p k.n k.words) (16 * k.n) start q source) number before after

abbrev pub MakesTagIn : Store → WorkingKey → List ℕ → ℕ → List ℕ → List ℕ → Type 0
MakesTagIn store k message number before after =
    UsesSet store k (cmac_refusal k.n (length before)) (λ p. tag (E p k.n k.words) (length before) message) number before after

abbrev pub VerifiesTagIn : Store → WorkingKey → List ℕ → List ℕ → Verified → Type 0
VerifiesTagIn store k message given answer =
    answer ≡ verification (E (parts_in store k.set) k.n k.words) message given (under_key k.n (loaded store k.set) (cmac_refusal k.n (length given)))

-- "With 0 named, all former guarantees read as before": with `k.set ≡ 0` each of these is what Demands and Job 1 have (crate ties).

-- "It refuses .. use of an unloaded set, with 15 .. block operations, runs and tags check 15 right after 1, expansion right after 2." In plain terms and
-- in order, with what a refusal leaves and returns: `Loaded store i`
abbrev pub UnderKey : Store → WorkingKey → ℕ → Type 0 → Type 0
UnderKey store k number further = Unless (Legal k.n) (number ≡ 1) (Unless (Loaded store k.set) (number ≡ 15) further)

abbrev pub AnswersBlockIn : Store → WorkingKey → List ℕ → ℕ → List ℕ → List ℕ → Type 0
AnswersBlockIn store k source number before after =
    UnderKey store k number (BlockNumber k.n (length source) (length before) number) × Kept number before after

abbrev pub AnswersCbcIn : Store → WorkingKey → List ℕ → List ℕ → ℕ → List ℕ → List ℕ → Type 0
AnswersCbcIn store k start source number before after =
    UnderKey store k number (CbcNumber k.n (length start) (length source) (length before) number) × Kept number before after

abbrev pub AnswersCtrIn : Store → WorkingKey → List ℕ → List ℕ → ℕ → List ℕ → List ℕ → Type 0
AnswersCtrIn store k start source number before after =
    UnderKey store k number (CtrNumber k.n (length start) (length source) (length before) number) × Kept number before after

abbrev pub AnswersTagIn : Store → WorkingKey → ℕ → List ℕ → List ℕ → Type 0
AnswersTagIn store k number before after = UnderKey store k number (TagNumber k.n (length before) number) × Kept number before after

abbrev pub AnswersVerifyingIn : Store → WorkingKey → List ℕ → Verified → Type 0
AnswersVerifyingIn store k given answer =
    UnderKey store k answer.number (TagNumber k.n (length given) answer.number) × ((answer.number ≡ 0 → ⊥) → answer.yes ≡ false)

-- a key that is refused has n, set and words zero; one that is taken names the set that it was expanded for
abbrev pub AnswersKeyFor : Store → ℕ → ℕ → ℕ → List ℕ → Expanded → Type 0
AnswersKeyFor store n l i key answer =
    Unless (Legal n) (answer.number ≡ 1) (Unless (LegalLength l) (answer.number ≡ 2)
    (Unless (Loaded store i) (answer.number ≡ 15) (KeyNumber n l (length key) answer.number)))
    × ((answer.number ≡ 0 → ⊥) → answer.key ≡ record { n = 0; set = 0; words = replicate 32 0 })
    × (answer.number ≡ 0 → (answer.key.n ≡ n) × (answer.key.set ≡ i))

-- verifying by any set: "says yes if and only if the given tag equals those first bytes"
abbrev pub YesExactlyIn : Store → WorkingKey → List ℕ → List ℕ → Verified → Type 0
YesExactlyIn store k message given answer =
    (answer.yes ≡ true) ↔ ((answer.number ≡ 0) × (given ≡ tag (E (parts_in store k.set) k.n k.words) (length given) message))

-- "A publisher loads a set, or takes one, which drops the one taken before." "A fresh store has only set 0 loaded and none taken." What else is said of
-- stores is in crate publishers, specs/Stores
abbrev pub MakesFresh : Store → Type 0
MakesFresh answer = answer ≡ fresh_store

abbrev pub Loads : Store → ℕ → ℕ → List ℕ → List ℕ → Changed → Type 0
Loads s p i substitution row answer = answer ≡ load s p i substitution row

abbrev pub Takes : Store → ℕ → ℕ → Changed → Type 0
Takes s p i answer = answer ≡ store.take s p i

-- "It refuses a publisher or set number outside the store, or the taking or use of an unloaded set, with 15; then, in loading, a substitution that isn't 256
-- different bytes with 14, then 13, then a set that someone holds, the loader included, with 16; a refused load or take changes nothing in the store"
abbrev pub AnswersLoad : Store → ℕ → ℕ → List ℕ → List ℕ → Changed → Type 0
AnswersLoad s p i substitution row answer =
    Unless ((p < 2) × (i < 4)) (answer ≡ record { number = 15; store = s })
    (Unless (Different substitution) (answer ≡ record { number = 14; store = s })
    (Unless (row_sum row ≡ 0 → ⊥) (answer ≡ record { number = 13; store = s })
    (Unless (Held s i → ⊥) (answer ≡ record { number = 16; store = s })
    (answer ≡ record { number = 0; store = with_set s i (record { substitution = substitution; row = row }) }))))

abbrev pub AnswersTake : Store → ℕ → ℕ → Changed → Type 0
AnswersTake s p i answer =
    Unless ((p < 2) × (i < 4) × Loaded s i) (answer ≡ record { number = 15; store = s }) (answer ≡ record { number = 0; store = with_taken s p i })

-- "What one publisher gets from a call depends on its key, its input, the sets and what it has taken itself, never on the other's keys or pages; only
-- whether a load is refused may depend on what the other has taken." Crate publishers states this over histories of calls (`Isolated`, `SameToOne`,
-- `LoadAlone`); and what a call in a history is said to answer, the operation answers
abbrev pub AnswersUse : Store → Use → calls.Answer → Type 0
AnswersUse s u given = (p : ℕ) → answer s (uses p u) ≡ given

abbrev pub AnswersCall : Store → Call → Changed → Type 0
AnswersCall s call changed = (answer s call ≡ calls.number changed.number) × (after s call ≡ changed.store)

-- "with another, the opened page is still the sealed one, against the article's map with that set's tables, provided the stores handed in at expanding,
-- sealing and opening have that set loaded with the same substitution and row": a key expanded with store x, a page sealed with s and opened with t, each
-- call answered 0. That one store kept throughout has, unless the set was loaded anew between, is `KeptUnlessRenewed` of crate publishers
abbrev pub CbcPageOpens : Type 0
CbcPageOpens =
    (x s t : Store) (n l i : ℕ) (secret : List ℕ) (e : Expanded) (start page before sealed room opened : List ℕ) → SameSet i x s → SameSet i s t
    → Words e.key.words → Bytes start → Bytes page → ExpandsFor x n l i secret e → e.number ≡ 0
    → SealsCbcIn s e.key start page 0 before sealed → OpensCbcIn t e.key start sealed 0 room opened
    → (sealed ≡ cbc_seal (E (parts_in s i) n (padded (expanded_words (parts_in s i).SM n l secret))) (16 * n) start page) × (opened ≡ page)

abbrev pub CtrPageOpens : Type 0
CtrPageOpens =
    (x s t : Store) (n l i : ℕ) (secret : List ℕ) (e : Expanded) (start : List ℕ) (q : ℕ) (page before sealed room opened : List ℕ) → SameSet i x s
    → SameSet i s t → ExpandsFor x n l i secret e → e.number ≡ 0 → RunsCtrIn s e.key start q page 0 before sealed
    → RunsCtrIn t e.key start q sealed 0 room opened
    → (sealed ≡ ctr (E (parts_in s i) n (padded (expanded_words (parts_in s i).SM n l secret))) (16 * n) start q page) × (opened ≡ page)

-- and of a function that makes both calls, with two stores: Demands' ComesBack, where both have the set alike
abbrev pub ComesBackIn : Store → Store → WorkingKey → ℕ → ℕ → List ℕ → ℕ → List ℕ → List ℕ → Type 0
ComesBackIn s t k sealing opening source number before after =
    (number ≡ first_of (under_key k.n (loaded s k.set) sealing) (under_key k.n (loaded t k.set) opening))
    × (SameSet k.set s t → after ≡ outcome number source before)

-- ---- Job 8: keys travel wrapped

-- "Add the wrapping KW of NIST SP 800-38F over the n = 1 cipher": what wrapping a key and unwrapping a wrapped one give, with set 0 named, and for any set
abbrev pub WrapsKey : WorkingKey → List ℕ → ℕ → List ℕ → List ℕ → Type 0
WrapsKey k source number before after =
    (number ≡ wrap_refusal k.n (length source) (length before)) × (after ≡ outcome number (wrapped (E article k.n k.words) source) before)

abbrev pub UnwrapsKey : WorkingKey → List ℕ → ℕ → List ℕ → List ℕ → Type 0
UnwrapsKey k source number before after =
    (number ≡ unwrap_refusal k.n (length source) (length before) (authentic (U article k.n k.words) source))
    × (after ≡ outcome number (unwrapped (U article k.n k.words) source) before)

abbrev pub WrapsKeyIn : Store → WorkingKey → List ℕ → ℕ → List ℕ → List ℕ → Type 0
WrapsKeyIn store k source number before after =
    UsesSet store k (wrap_refusal k.n (length source) (length before)) (λ p. wrapped (E p k.n k.words) source) number before after

abbrev pub UnwrapsKeyIn : Store → WorkingKey → List ℕ → ℕ → List ℕ → List ℕ → Type 0
UnwrapsKeyIn store k source number before after =
    UsesSet store k
    (unwrap_refusal k.n (length source) (length before) (authentic (U (parts_in store k.set) k.n k.words) source))
    (λ p. unwrapped (U p k.n k.words) source) number before after

-- "for keys of 16 to 128 bytes in steps of 8, and its unwrapping from 24 to 136." "The destination is eight bytes longer or shorter than the source. It
-- refuses a source length outside these with 17, after 1, 15 and 12; then the destination's with 5; then, unwrapping only, a wrong check value with 18, the
-- destination untouched." The check value is the first eight bytes of what the standard's inverse of W makes of the source, and is right if they are A6
abbrev pub WrapNumber : ℕ → ℕ → ℕ → ℕ → Type 0
WrapNumber n source destination number =
    Unless (Legal n) (number ≡ 1) (Unless (n ≡ 1) (number ≡ 12)
    (Unless ((source % 8 ≡ 0) × (16 ≤ source) × (source ≤ 128)) (number ≡ 17) (Unless (destination ≡ source + 8) (number ≡ 5) (number ≡ 0))))

abbrev pub RightValue : (List ℕ → List ℕ) → List ℕ → Type 0
RightValue u source = take 8 (W⁻¹ u source) ≡ replicate 8 0xA6

abbrev pub UnwrapNumber : (List ℕ → List ℕ) → ℕ → List ℕ → ℕ → ℕ → Type 0
UnwrapNumber u n source destination number =
    Unless (Legal n) (number ≡ 1) (Unless (n ≡ 1) (number ≡ 12)
    (Unless ((length source % 8 ≡ 0) × (24 ≤ length source) × (length source ≤ 136)) (number ≡ 17)
    (Unless (length source ≡ destination + 8) (number ≡ 5) (Unless (RightValue u source) (number ≡ 18) (number ≡ 0)))))

abbrev pub WrapsTaken : Type 0
WrapsTaken =
    (n source destination number : ℕ) → WrapNumber n source destination number
    → (number ≡ 0) ↔ ((n ≡ 1) × ((source % 8 ≡ 0) × (16 ≤ source) × (source ≤ 128)) × (destination ≡ source + 8))

abbrev pub UnwrapsTaken : Type 0
UnwrapsTaken =
    (u : List ℕ → List ℕ) (n : ℕ) (source : List ℕ) (destination number : ℕ) → UnwrapNumber u n source destination number
    → (number ≡ 0)
    ↔ ((n ≡ 1) × ((length source % 8 ≡ 0) × (24 ≤ length source) × (length source ≤ 136)) × (length source ≡ destination + 8) × RightValue u source)

abbrev pub AnswersWrapping : WorkingKey → List ℕ → ℕ → List ℕ → List ℕ → Type 0
AnswersWrapping k source number before after = WrapNumber k.n (length source) (length before) number × Kept number before after

abbrev pub AnswersUnwrapping : WorkingKey → List ℕ → ℕ → List ℕ → List ℕ → Type 0
AnswersUnwrapping k source number before after =
    UnwrapNumber (U article k.n k.words) k.n source (length before) number × Kept number before after

abbrev pub AnswersWrappingIn : Store → WorkingKey → List ℕ → ℕ → List ℕ → List ℕ → Type 0
AnswersWrappingIn store k source number before after =
    UnderKey store k number (WrapNumber k.n (length source) (length before) number) × Kept number before after

abbrev pub AnswersUnwrappingIn : Store → WorkingKey → List ℕ → ℕ → List ℕ → List ℕ → Type 0
AnswersUnwrappingIn store k source number before after =
    UnderKey store k number (UnwrapNumber (U (parts_in store k.set) k.n k.words) k.n source (length before) number) × Kept number before after

-- "Under one master key, its set unchanged, unwrapping what was wrapped yields the key": of the definitions, over any map of blocks of 16 bytes that
-- another undoes,
abbrev pub MapsBlocks : (List ℕ → List ℕ) → Type 0
MapsBlocks e = (b : List ℕ) → (length (e b) ≡ 16) × Bytes (e b)

abbrev pub Undoes : (List ℕ → List ℕ) → (List ℕ → List ℕ) → Type 0
Undoes u e = (b : List ℕ) → length b ≡ 16 → Bytes b → u (e b) ≡ b

abbrev pub UnwrapsWrapped : Type 0
UnwrapsWrapped =
    (e u : List ℕ → List ℕ) → MapsBlocks e → Undoes u e → (key : List ℕ) → 8 ≤ length key → Bytes key
    → RightValue u (wrapped e key) × (unwrapped u (wrapped e key) ≡ key)

-- and of the operations, for any working key, expanded or made by hand, and any loaded set: a key wrapped with store s and unwrapped with store t, to a
-- destination as long as the key. The second call is never refused
abbrev pub KeyUnwraps : Type 0
KeyUnwraps =
    (s t : Store) (k : WorkingKey) (key before sent room after : List ℕ) (number : ℕ) → SameSet k.set s t → Words k.words → Bytes key
    → WrapsKeyIn s k key 0 before sent → length room ≡ length key → UnwrapsKeyIn t k sent number room after → (number ≡ 0) × (after ≡ key)

-- the master key expanded with store x
abbrev pub KeyTravels : Type 0
KeyTravels =
    (x s t : Store) (n l i : ℕ) (secret : List ℕ) (e : Expanded) (key before sent room after : List ℕ) (number : ℕ) → SameSet i x s → SameSet i s t
    → Words e.key.words → Bytes key → ExpandsFor x n l i secret e → e.number ≡ 0 → WrapsKeyIn s e.key key 0 before sent
    → length room ≡ length key → UnwrapsKeyIn t e.key sent number room after
    → (sent ≡ wrapped (E (parts_in s i) n (padded (expanded_words (parts_in s i).SM n l secret))) key) × (number ≡ 0) × (after ≡ key)

-- "and what unwrapping accepts is just what wrapping produces": of the definitions,
pub record WrappedFrom (e : List ℕ → List ℕ) (c : List ℕ) : Type 0 where
  pub key : List ℕ
  pub long : 8 ≤ length key
  pub small : Bytes key
  pub made : c ≡ wrapped e key

abbrev pub AcceptsWrapped : Type 0
AcceptsWrapped =
    (e u : List ℕ → List ℕ) → MapsBlocks e → MapsBlocks u → Undoes u e → Undoes e u → (c : List ℕ) → 16 ≤ length c → Bytes c
    → RightValue u c ↔ WrappedFrom e c

-- of the operations, where a source gets 0 exactly if some wrapping under the same key produces it,
pub record SentBy (s : Store) (k : WorkingKey) (c : List ℕ) : Type 0 where
  pub key : List ℕ
  pub before : List ℕ
  pub small : Bytes key
  pub sent : WrapsKeyIn s k key 0 before c

abbrev pub AcceptsSent : Type 0
AcceptsSent =
    (s t : Store) (k : WorkingKey) (c room after : List ℕ) (number : ℕ) → SameSet k.set s t → Words k.words → Bytes c
    → length c ≡ length room + 8 → UnwrapsKeyIn t k c number room after → (number ≡ 0) ↔ SentBy s k c

-- so what was unwrapped, wrapped again, is what it was; and two different sources are never unwrapped to one key, of the definitions and of the operations
abbrev pub KeyWrapsAgain : Type 0
KeyWrapsAgain =
    (s t : Store) (k : WorkingKey) (c before key room after : List ℕ) (number : ℕ) → SameSet k.set s t → Words k.words → Bytes c
    → UnwrapsKeyIn s k c 0 before key → length room ≡ length c → WrapsKeyIn t k key number room after → (number ≡ 0) × (after ≡ c)

abbrev pub UnwrapsOnce : Type 0
UnwrapsOnce =
    (e u : List ℕ → List ℕ) → MapsBlocks u → Undoes e u → (c d : List ℕ) → 16 ≤ length c → 16 ≤ length d → Bytes c → Bytes d
    → RightValue u c → RightValue u d → unwrapped u c ≡ unwrapped u d → c ≡ d

abbrev pub OneSource : Type 0
OneSource =
    (s t : Store) (k : WorkingKey) (c d before room key : List ℕ) → SameSet k.set s t → Words k.words → Bytes c → Bytes d
    → UnwrapsKeyIn s k c 0 before key → UnwrapsKeyIn t k d 0 room key → c ≡ d

-- and of functions that make both calls, with two stores: Job 7's ComesBackIn, where right tells whether the check value is; and with the sets alike it is
abbrev pub KeyComesBackIn : Store → Store → WorkingKey → ℕ → (Bool → ℕ) → Bool → List ℕ → ℕ → List ℕ → List ℕ → Type 0
KeyComesBackIn s t k wrapping unwrapping right source number before after =
    ComesBackIn s t k wrapping (unwrapping right) source number before after
    × (SameSet k.set s t → number ≡ first_of (under_key k.n (loaded s k.set) wrapping) (under_key k.n (loaded t k.set) (unwrapping true)))
