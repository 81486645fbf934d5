-- The user's demands 1, 2 and 3, sentence by sentence: each is quoted, and what stands for it is stated over the definitions. Where a
-- sentence speaks of what operations do, the statement is over the operation's answer. Since Job 7 of document 02 an operation takes a store too, and its
-- key names a set of tables: what stands here is of calls that name set 0, the published one.
-- Assumes nothing.
use Rattle.std.specs.Prelude.{◌≡◌, false, ◌↔◌, List, [], ◌∷◌, ℕ, ◌+◌, ◌*◌, ◌/◌, ◌%◌, ◌^◌, ◌≤◌, ◌<◌, length, get_or, replicate}
use Rattle.std.specs.Int.Bits.{bit_xor}
use Rattle.forms.specs.Lists.{over, iterate}
use Rattle.forms.specs.Words.{rotl}
use Rattle.forms.specs.Refusals.{Unless, outcome, first_of}
use Rattle.forms.specs.Strings.{xor_bytes, block}
use Rattle.field.specs.Substitution.{sub, sub_inv}
use Rattle.field.specs.Mixing.{mix, scale}
use Rattle.field.specs.Published.{table1, row}
use Rattle.labyrinth.specs.declared.WorkingKey.{WorkingKey}
use Rattle.labyrinth.specs.declared.Expanded.{Expanded}
use Rattle.labyrinth.specs.Cipher.{article}
use Rattle.labyrinth.specs.Keys.{E, U}
use Rattle.labyrinth.specs.Refusals.{Legal, LegalLength, block_refusal, expand_refusal, expansion}
use Rattle.tape_rules.specs.declared.Tape.{Tape}
use Rattle.tape_rules.specs.declared.Stepped.{Stepped}
use Rattle.tape_rules.specs.Steps.{step}
use Rattle.tape_rules.specs.Steps as tape
use Rattle.tape_rules.specs.Plain.{StepSays}
use Rattle.tape_run.specs.declared.Answered.{Answered}
use Rattle.tape_run.specs.Runs.{steps, joined, tape_answers, run}
use Rattle.tape_run.specs.Runs as tape-run
use Rattle.modes.specs.Cbc.{cbc_seal, cbc_open, before as blockBefore}
use Rattle.modes.specs.Ctr.{counter, blocks, ctr}
use Rattle.modes.specs.Refusals.{cbc_refusal, ctr_refusal}
use Rattle.publishers.specs.Pages.{Bytes, Words}

-- ---- Demand 1

-- "Every key, block, run and command tape that document 01 admits is taken, and the work on it stays inside the lent memory and ends. Everything
-- else, from any caller, is refused with document 01's number in its order of checks, and what the refusal returns and leaves in each buffer is
-- fixed there." That the work stays inside and ends is what the checker proves of every function. The rest is stated of what the operations
-- answer. Which number, in plain terms and in document 01's order: `Unless` what is asked for holds it is the number named, else what follows.
-- Document 01: "Each returns 0 or the first number that applies."
abbrev pub KeyNumber : ℕ → ℕ → ℕ → ℕ → Type 0
KeyNumber n l key number = Unless (Legal n) (number ≡ 1) (Unless (LegalLength l) (number ≡ 2) (Unless (key ≡ 8 * (n * l)) (number ≡ 3) (number ≡ 0)))

abbrev pub BlockNumber : ℕ → ℕ → ℕ → ℕ → Type 0
BlockNumber n source destination number =
    Unless (Legal n) (number ≡ 1) (Unless (source ≡ 16 * n) (number ≡ 4) (Unless (destination ≡ 16 * n) (number ≡ 5) (number ≡ 0)))

abbrev pub CbcNumber : ℕ → ℕ → ℕ → ℕ → ℕ → Type 0
CbcNumber n start source destination number =
    Unless (Legal n) (number ≡ 1)
    (Unless (start ≡ 16 * n) (number ≡ 6) (Unless (source % (16 * n) ≡ 0) (number ≡ 4) (Unless (destination ≡ source) (number ≡ 5) (number ≡ 0))))

abbrev pub CtrNumber : ℕ → ℕ → ℕ → ℕ → ℕ → Type 0
CtrNumber n start source destination number =
    Unless (Legal n) (number ≡ 1) (Unless (start ≡ 16 * n) (number ≡ 6) (Unless (destination ≡ source) (number ≡ 5) (number ≡ 0)))

-- so what is taken, number 0, is exactly what document 01 admits
abbrev pub KeysTaken : Type 0
KeysTaken = (n l key number : ℕ) → KeyNumber n l key number → (number ≡ 0) ↔ (Legal n × LegalLength l × (key ≡ 8 * (n * l)))

abbrev pub BlocksTaken : Type 0
BlocksTaken =
    (n source destination number : ℕ) → BlockNumber n source destination number → (number ≡ 0) ↔ (Legal n × (source ≡ 16 * n) × (destination ≡ 16 * n))

abbrev pub CbcTaken : Type 0
CbcTaken =
    (n start source destination number : ℕ) → CbcNumber n start source destination number
    → (number ≡ 0) ↔ (Legal n × (start ≡ 16 * n) × (source % (16 * n) ≡ 0) × (destination ≡ source))

abbrev pub CtrTaken : Type 0
CtrTaken =
    (n start source destination number : ℕ) → CtrNumber n start source destination number
    → (number ≡ 0) ↔ (Legal n × (start ≡ 16 * n) × (destination ≡ source))

-- "After a refusal every lent buffer holds what it held before": of a buffer before and after. A buffer lent for reading only has no after.
abbrev pub Kept : ℕ → List ℕ → List ℕ → Type 0
Kept number before after = (number ≡ 0 → ⊥) → after ≡ before

-- "The working key returned with a refusal has n = 0 and all words zero."
abbrev pub AnswersKey : ℕ → ℕ → List ℕ → Expanded → Type 0
AnswersKey n l key answer =
    KeyNumber n l (length key) answer.number × ((answer.number ≡ 0 → ⊥) → answer.key ≡ record { n = 0; set = 0; words = replicate 32 0 })

abbrev pub AnswersBlock : WorkingKey → List ℕ → ℕ → List ℕ → List ℕ → Type 0
AnswersBlock k source number before after = BlockNumber k.n (length source) (length before) number × Kept number before after

abbrev pub AnswersCbc : WorkingKey → List ℕ → List ℕ → ℕ → List ℕ → List ℕ → Type 0
AnswersCbc k start source number before after = CbcNumber k.n (length start) (length source) (length before) number × Kept number before after

abbrev pub AnswersCtr : WorkingKey → List ℕ → List ℕ → ℕ → List ℕ → List ℕ → Type 0
AnswersCtr k start source number before after = CtrNumber k.n (length start) (length source) (length before) number × Kept number before after

-- the tape's step: 5; then an ended state, an empty rest, 7, 8; for 01 then 1, 2, 10, for 03 and 04 then 9, 1, 10; with what each takes, writes and
-- leaves. `StepSays` has them in order, and here what the step gave is its answer and what was written over the front of the answer buffer
abbrev pub AnswersStep : Tape → List ℕ → Stepped → List ℕ → List ℕ → Type 0
AnswersStep t rest answer before after =
    StepSays (λ number taken written next.
    (answer ≡ record { number = number; taken = taken; written = length written; next = next }) × (after ≡ over written before)) t rest (length before)

-- a whole tape: a buffer of another size than 65,537 bytes, which is ours to refuse, gets 5 and stays; "For a longer tape it writes the byte 04 only."
abbrev pub AnswersTape : List ℕ → Answered → List ℕ → List ℕ → Type 0
AnswersTape tape answer before after =
    Unless (length before ≡ 65537) ((answer ≡ record { number = 5; length = 0 }) × (after ≡ before))
    (Unless (length tape ≤ 65536) ((answer ≡ record { number = 4; length = 1 }) × (after ≡ over (4 ∷ []) before))
    ((answer ≡ record { number = 0; length = length (tape_answers tape) }) × (after ≡ over (tape_answers tape) before)))

-- ---- Demand 2

-- What an operation answers: its number, and what a buffer held before and holds after. Of each operation in the code it is proved that its
-- contract says this, for all arguments, and that the function meets its contract (crate ties).

-- "Expansion, enciphering and deciphering give, bit for bit, the Labyrinth of the article (source document 000) at blocks of 128, 256 and 512
-- bits with three key lengths each."
abbrev pub Expands : ℕ → ℕ → List ℕ → Expanded → Type 0
Expands n l key answer = answer ≡ expansion article.SM 0 n l key (expand_refusal n l (length key))

abbrev pub Maps : (List ℕ → List ℕ) → ℕ → List ℕ → ℕ → List ℕ → List ℕ → Type 0
Maps map n source number before after = (number ≡ block_refusal n (length source) (length before)) × (after ≡ outcome number (map source) before)

abbrev pub Enciphers : WorkingKey → List ℕ → ℕ → List ℕ → List ℕ → Type 0
Enciphers k = Maps (E article k.n k.words) k.n

abbrev pub Deciphers : WorkingKey → List ℕ → ℕ → List ℕ → List ℕ → Type 0
Deciphers k = Maps (U article k.n k.words) k.n

-- "Chained and counter runs are CBC and CTR of NIST SP 800-38A over it, sealing and opening."
abbrev pub SealsCbc : WorkingKey → List ℕ → List ℕ → ℕ → List ℕ → List ℕ → Type 0
SealsCbc k start source number before after =
    (number ≡ cbc_refusal k.n (length start) (length source) (length before))
    × (after ≡ outcome number (cbc_seal (E article k.n k.words) (16 * k.n) start source) before)

abbrev pub OpensCbc : WorkingKey → List ℕ → List ℕ → ℕ → List ℕ → List ℕ → Type 0
OpensCbc k start source number before after =
    (number ≡ cbc_refusal k.n (length start) (length source) (length before))
    × (after ≡ outcome number (cbc_open (U article k.n k.words) (16 * k.n) start source) before)

abbrev pub RunsCtr : WorkingKey → List ℕ → ℕ → List ℕ → ℕ → List ℕ → List ℕ → Type 0
RunsCtr k start q source number before after =
    (number ≡ ctr_refusal k.n (length start) (length source) (length before))
    × (after ≡ outcome number (ctr (E article k.n k.words) (16 * k.n) start q source) before)

-- document 01: "Sealed block i is E of the XOR of source block i with the sealed block before it. Opened block i is U of sealed block i, XORed with the
-- sealed block before it. Before block 0 stands the start block." "Block i of a run is bytes 16ni to 16ni + 16n − 1." Of a run that was taken, which
-- leaves as many bytes as the source has:
abbrev pub SealedBy : (List ℕ → List ℕ) → ℕ → List ℕ → List ℕ → List ℕ → Type 0
SealedBy e z start source sealed =
    (length sealed ≡ length source)
    × ((i : ℕ) → i < length source / z → block z i sealed ≡ e (xor_bytes (block z i source) (blockBefore z start sealed i)))

abbrev pub OpenedBy : (List ℕ → List ℕ) → ℕ → List ℕ → List ℕ → List ℕ → Type 0
OpenedBy u z start source opened =
    (length opened ≡ length source)
    × ((i : ℕ) → i < length source / z → block z i opened ≡ xor_bytes (u (block z i source)) (blockBefore z start source i))

abbrev pub SealedByBlocks : WorkingKey → List ℕ → List ℕ → List ℕ → Type 0
SealedByBlocks k = SealedBy (E article k.n k.words) (16 * k.n)

abbrev pub OpenedByBlocks : WorkingKey → List ℕ → List ℕ → List ℕ → Type 0
OpenedByBlocks k = OpenedBy (U article k.n k.words) (16 * k.n)

-- "a last short block uses the first bytes of its key stream .. each source byte is XORed with the key stream's byte at its place. Block i, from 0,
-- enciphers the start block plus q + i, modulo 2^(128n), read with its LAST byte least": `counter`; a last short block is counted by `blocks`
abbrev pub CountedBy : (List ℕ → List ℕ) → ℕ → List ℕ → ℕ → List ℕ → List ℕ → Type 0
CountedBy e z start q source after =
    (length after ≡ length source)
    × ((i : ℕ) → i < blocks z (length source) → block z i after ≡ xor_bytes (block z i source) (e (counter z start (q + i))))

abbrev pub CountedByBlocks : WorkingKey → List ℕ → ℕ → List ℕ → List ℕ → Type 0
CountedByBlocks k = CountedBy (E article k.n k.words) (16 * k.n)

-- "S is one-to-one; its inverse is used too." "Mixing and substitution take any value and never refuse." Mixing is below and, since it takes a row, in
-- Requests
abbrev pub Substitutes : ℕ → ℕ → Type 0
Substitutes b answer = answer ≡ sub table1 b

abbrev pub SubstitutesBack : ℕ → ℕ → Type 0
SubstitutesBack b answer = answer ≡ sub_inv table1 b

abbrev pub SubstitutionUndone : Type 0
SubstitutionUndone = (b : ℕ) → b < 2 ^ 8 → (sub_inv table1 (sub table1 b) ≡ b) × (sub table1 (sub_inv table1 b) ≡ b)

-- "The tape reader answers each command as document 01 lays down."
abbrev pub Steps : Tape → List ℕ → Stepped → List ℕ → List ℕ → Type 0
Steps t rest answer before after = let a = step t rest (length before) in (answer ≡ tape.returned a) × (after ≡ over a.written before)

-- "A fresh state has n = 0, zero words, and neither mark."
abbrev pub Fresh : Tape → Type 0
Fresh answer = answer ≡ record { key = record { n = 0; set = 0; words = replicate 32 0 }; keyed = false; ended = false }

-- "The tape program steps through the tape .. until it is ended and writes the answers": the work of the program, from a tape to a buffer
abbrev pub WorksTape : List ℕ → Answered → List ℕ → List ℕ → Type 0
WorksTape tape answer before after = let a = run tape (length before) in (answer ≡ tape-run.returned a) × (after ≡ over a.written before)

-- ---- Document 01 on the working key

-- "Expansion sets the unused words to zero": of what expansion answers, 32 words, those from 8n on zero; a refused key, with n = 0, too
abbrev pub UnusedWordsZero : Expanded → Type 0
UnusedWordsZero answer = (length answer.key.words ≡ 32) × ((i : ℕ) → 8 * answer.key.n ≤ i → get_or answer.key.words i 0 ≡ 0)

-- "Later answers depend on the used words only." Two working keys with the same n and the same used words, 8n of them
abbrev pub SameUsed : WorkingKey → WorkingKey → Type 0
SameUsed k j = (k.n ≡ j.n) × ((i : ℕ) → i < 8 * k.n → get_or k.words i 0 ≡ get_or j.words i 0)

-- and two states of the tape with such keys and the same marks
abbrev pub AlikeStates : Tape → Tape → Type 0
AlikeStates t u = SameUsed t.key u.key × (t.keyed ≡ u.keyed) × (t.ended ≡ u.ended)

-- Said of what two calls of an operation answer. Call says of arguments, a returned value and the arguments' ends that they are a call's, as the
-- operation's contract tells (crate ties); key is the working key among the arguments, given what else the answer may depend on, left what
-- the call leaves in the destination. With keys alike and the rest given alike, the calls return the same and leave the same
abbrev pub OfUsedWords : {A Z B G L : Type 0} → (A → Z → B → Type 0) → (A → WorkingKey) → (A → G) → (B → L) → Type 0
OfUsedWords {A} {Z} {B} Call key given left =
    (a b : A) (y z : Z) (e f : B) → Call a y e → Call b z f → SameUsed (key a) (key b) → given a ≡ given b → (y ≡ z) × (left e ≡ left f)

-- and of two calls of the tape's step, from such states on one rest and one buffer: equal answers, and next states alike again
abbrev pub AlikeAnswers : Stepped → Stepped → Type 0
AlikeAnswers y z = (y.number ≡ z.number) × (y.taken ≡ z.taken) × (y.written ≡ z.written) × AlikeStates y.next z.next

abbrev pub StepsOfUsedWords : {A B G : Type 0} → (A → Stepped → B → Type 0) → (A → Tape) → (A → G) → (B → List ℕ) → Type 0
StepsOfUsedWords {A} {B} Call state given left =
    (a b : A) (y z : Stepped) (e f : B) → Call a y e → Call b z f → AlikeStates (state a) (state b) → given a ≡ given b
    → AlikeAnswers y z × (left e ≡ left f)

-- so a whole tape, worked from such states, is answered the same; the run of a tape begins with the fresh state, and takes no key
abbrev pub TapesOfUsedWords : Type 0
TapesOfUsedWords = (k : ℕ) (t u : Tape) (rest : List ℕ) → AlikeStates t u → joined (steps k t rest) ≡ joined (steps k u rest)

-- ---- Demand 3

-- "Whatever words a working key of a legal size holds, expanded or made by hand, let E be the article's block map under its enciphering
-- subkeys, and U the same under its deciphering ones, as document 01 lists them. For every admitted block, enciphering by matrix and by merged
-- table both give E of it, deciphering by either gives U of it": `Enciphers` and `Deciphers` of both engines. "And E and U undo each other":
abbrev pub EAndUUndo : Type 0
EAndUUndo =
    (n : ℕ) (ws b : List ℕ) → Words ws → length b ≡ 16 * n → Bytes b → (U article n ws (E article n ws b) ≡ b) × (E article n ws (U article n ws b) ≡ b)

-- so what one call enciphers the next deciphers to what it was, and the other way round, by either engine
abbrev pub BlocksComeBack : Type 0
BlocksComeBack =
    (k : WorkingKey) (source before mapped old after : List ℕ) → Words k.words → Bytes source
    → (Enciphers k source 0 before mapped → Deciphers k mapped 0 old after → after ≡ source)
    × (Deciphers k source 0 before mapped → Enciphers k mapped 0 old after → after ≡ source)

-- "For every CBC or CTR sealing that document 01 admits, the empty one too, every admitted opening of its result, by the same kind of run and
-- under the same working key, start block and, in CTR, offset, gives back the source byte for byte": of the modes,
abbrev pub CbcOpensAgain : Type 0
CbcOpensAgain =
    (n : ℕ) (ws start p : List ℕ) (sealed : ℕ) → Words ws → Bytes start → Bytes p → CbcNumber n (length start) (length p) sealed 0
    → cbc_open (U article n ws) (16 * n) start (cbc_seal (E article n ws) (16 * n) start p) ≡ p

abbrev pub CtrOpensAgain : Type 0
CtrOpensAgain =
    (n : ℕ) (ws start : List ℕ) (q : ℕ) (p : List ℕ) (sealed : ℕ) → CtrNumber n (length start) (length p) sealed 0
    → ctr (E article n ws) (16 * n) start q (ctr (E article n ws) (16 * n) start q p) ≡ p

-- of a sealing call and any opening call on what it left,
abbrev pub CbcCallsOpen : Type 0
CbcCallsOpen =
    (k : WorkingKey) (start source before sealed old opened : List ℕ) → Words k.words → Bytes start → Bytes source
    → SealsCbc k start source 0 before sealed → OpensCbc k start sealed 0 old opened → opened ≡ source

abbrev pub CtrCallsOpen : Type 0
CtrCallsOpen =
    (k : WorkingKey) (start : List ℕ) (q : ℕ) (source before sealed old opened : List ℕ)
    → RunsCtr k start q source 0 before sealed → RunsCtr k start q sealed 0 old opened → opened ≡ source

-- and of a function that makes both calls: sealing to a middle buffer and opening from it answers the first number that isn't 0, and the source
abbrev pub ComesBack : ℕ → ℕ → List ℕ → ℕ → List ℕ → List ℕ → Type 0
ComesBack sealing opening source number before after = (number ≡ first_of sealing opening) × (after ≡ outcome number source before)

-- "For all words of 64 bits, the article's mixing of the XOR of two is the XOR of the two mixed,"
abbrev pub MixingOfXor : Type 0
MixingOfXor = (a b : ℕ) → mix row (bit_xor a b) ≡ bit_xor (mix row a) (mix row b)

-- "mixing a word rotated by whole bytes gives the mixed word rotated alike,"
abbrev pub MixingRotated : Type 0
MixingRotated = (w k : ℕ) → w < 2 ^ 64 → k ≤ 8 → mix row (rotl w (8 * k)) ≡ rotl (mix row w) (8 * k)

-- "and mixing a word eight times gives that word with every byte multiplied by 46 (hexadecimal) in the field of polynomial 12D."
abbrev pub MixingEightTimes : Type 0
MixingEightTimes = (w : ℕ) → iterate 8 (mix row) w ≡ scale 0x46 w
