-- The operations do what the demands and the change requests say: what the contract of each tells its caller, for all arguments, is the statement; and each function
-- meets its contract.
-- Assumes nothing.
use mathlib.Core.Path.{◌≡◌, refl, sym, ap, subst, ◌∙◌}
use mathlib.Core.Bool.{true}
use mathlib.Core.List.{List}
use Prim.Native.Nat.{ℕ, ◌*◌}
use contract.Lifetimes.{Lfts}
use borrow.Author.Tests.{eq-eqb, eqb-true}
use lib.ListN.{length}
use Rattle.field.specs.Merged.{lookup}
use Rattle.rows.proofs.Rows.{published_mixed}
use Rattle.modes.specs.KeyWrap.{wrapped, authentic}
use Rattle.modes.specs.Refusals.{cbc_refusal, ctr_refusal, cmac_refusal, wrap_refusal, unwrap_refusal}
use Rattle.cmac.specs.declared.Verified.{Verified}
use Rattle.labyrinth.specs.declared.WorkingKey.{WorkingKey}
use Rattle.labyrinth.specs.Cipher.{Parts, article}
use Rattle.labyrinth.specs.Keys.{E, U}
use Rattle.labyrinth.specs.Refusals.{under_key}
use Rattle.modes.proofs.Refusals.{cbc_one, ctr_one, wrap_one, unwrap_one}
use Rattle.sets.specs.declared.Store.{Store}
use Rattle.sets.specs.Sets.{parts_in, loaded}
use Rattle.sets.proofs.Sets.{parts_zero}
use Rattle.keyed_pages.specs.Keyed.{written}
use Rattle.keyed_pages.specs.Refusals.{write_refusal, read_refusal}
use Rattle.publishers.specs.Calls.{loads, takes, expands as use-expands, enciphers, deciphers, seals, opens, counts, tags, verifies, wraps, unwraps, key, buffer, verdict}
use Rattle.publishers.specs.Pages.{Bytes, Words}
use Rattle.rows.specs.Inverse.{Row}
use Rattle.promise.specs.Demands.{AnswersKey, AnswersBlock, AnswersCbc, AnswersCtr, AnswersStep, AnswersTape, Steps, WorksTape, Expands, Enciphers, Deciphers, SealsCbc, OpensCbc, RunsCtr, SealedBy, OpenedBy, CountedBy, SealedByBlocks, OpenedByBlocks, CountedByBlocks, Substitutes, SubstitutesBack, Fresh, UnusedWordsZero, OfUsedWords, StepsOfUsedWords, ComesBack}
use Rattle.promise.specs.Requests.{ExpandsFor, EnciphersIn, DeciphersIn, SealsCbcIn, OpensCbcIn, RunsCtrIn, MakesTagIn, VerifiesTagIn, AnswersKeyFor, AnswersBlockIn, AnswersCbcIn, AnswersCtrIn, AnswersTagIn, AnswersVerifyingIn, YesExactlyIn, MakesFresh, Loads, Takes, AnswersLoad, AnswersTake, AnswersUse, AnswersCall, ComesBackIn, MakesTag, VerifiesTag, AnswersTag, AnswersVerifying, YesExactly, GetsYes, TellsItsEnd, Multiplies, MixesBy, AnswersMixing, MixesAsBefore, MakesTable, AnswersTable, MakesTheTableLent, LooksUp, FindsMixed, MultipliesRows, Inverts, AnswersInverse, ConvertsWord, Judges, WrapsKey, UnwrapsKey, WrapsKeyIn, UnwrapsKeyIn, AnswersWrapping, AnswersUnwrapping, AnswersWrappingIn, AnswersUnwrappingIn, KeyComesBackIn}
use Rattle.promise.specs.Pages.{ReadsEntry, ReadsTitle, OpensPage, VerifiesThenOpens, WritesPage, AnswersEntry, AnswersTitle, AnswersWriting, AnswersReading, CataloguesWritten, TitlesWritten, PageComesBackIn, OfUsedWordsOfBoth}
use Rattle.promise.proofs.Demands.{answers_key, answers_block, seals_answers, opens_answers, ctr_answers, answers_step, answers_tape, sealed_by_blocks, opened_by_blocks, counted_by_blocks, enciphers_used, deciphers_used, seals_used, opens_used, runs_used, steps_alike, cbc_calls_open, ctr_calls_open}
use Rattle.promise.proofs.Requests.{answers_tag, answers_verifying, yes_exactly, tags_used, verifies_used, tells_its_end, answers_mixing, answers_table, one_inverse, looks_up_lem, published_table}
use Rattle.promise.proofs.Stores.{enciphers_at_zero, deciphers_at_zero, makes_at_zero, seals_at_zero, opens_at_zero, runs_at_zero, verifies_at_zero, expands_at_zero, both_at_zero, enciphers_answers_in, deciphers_answers_in, makes_answers_in, seals_answers_in, opens_answers_in, runs_answers_in, verifies_answers_in, yes_exactly_in, unused_words_zero_for, answers_key_for, sealed_by_in, opened_by_in, counted_by_in, answers_load, answers_take, enciphers_as, deciphers_as, makes_as, seals_as, opens_as, runs_as, verifies_as, expands_as, loads_as, takes_as}
use Rattle.promise.proofs.Keys.{answers_wrapping, answers_unwrapping, answers_wrapping_in, answers_unwrapping_in, wraps_at_zero, unwraps_at_zero, key_back_at_zero, wraps_as, unwraps_as, wraps_used, unwraps_used}
use Rattle.promise.proofs.Pages.{answers_entry, answers_title, answers_writing, answers_reading, verifies_then_opens, writes_used, opens_used as page-opens-used}
use Rattle.tape_rules.proofs.fresh as fresh
use Rattle.tape.proofs.step as tape-step
use Rattle.tape_run.proofs.run as tape-run
use Rattle.expansion.proofs.expand as expand
use Rattle.table_cipher.proofs.encipher_by_table as encipher-by-table
use Rattle.table_cipher.proofs.decipher_by_table as decipher-by-table
use Rattle.matrix_cipher.proofs.encipher_by_matrix as encipher-by-matrix
use Rattle.matrix_cipher.proofs.decipher_by_matrix as decipher-by-matrix
use Rattle.cbc.proofs.seal as seal
use Rattle.cbc.proofs.open as cbc-open
use Rattle.ctr.proofs.run as run
use Rattle.cmac.proofs.make as make
use Rattle.stores.proofs.fresh as fresh-store
use Rattle.stores.proofs.load as Load-set
use Rattle.stores.proofs.take as take-set
use Rattle.cmac.proofs.verify as verify
use Rattle.key_wrap.proofs.wrap as wrap
use Rattle.key_wrap.proofs.unwrap as unwrap
use Rattle.tag_trips.proofs.tag_made_and_verified as tag-made-and-verified
use Rattle.cbc_trips.proofs.cbc_there_and_back as cbc-there-and-back
use Rattle.ctr_trips.proofs.ctr_there_and_back as ctr-there-and-back
use Rattle.wrapped_trips.proofs.key_wrapped_and_unwrapped as key-wrapped-and-unwrapped
use Rattle.wrapped_trips.proofs.key_unwrapped_and_wrapped as key-unwrapped-and-wrapped
use Rattle.catalogue.proofs.catalogue as catalogue-page
use Rattle.catalogue.proofs.title as title-of-page
use Rattle.page_writer.proofs.write as write-page
use Rattle.page_reader.proofs.open as open-page
use Rattle.page_listings.proofs.written_and_catalogued as written-and-catalogued
use Rattle.page_listings.proofs.written_and_titled as written-and-titled
use Rattle.page_trips.proofs.written_and_opened as written-and-opened
use Rattle.conversions.proofs.word_converted as word-converted
use Rattle.rows.proofs.mix as mix-word
use Rattle.rows.proofs.make_table as make-table
use Rattle.rows.proofs.product as product-of-rows
use Rattle.rows.proofs.inverse as inverse-of-row
use Rattle.judge.proofs.judge as judge-of-rows
use Rattle.mixing.proofs.look_up as look_up
use Rattle.tables.proofs.merged_table as merged-table
use Rattle.tables.proofs.substitute as substitute
use Rattle.tables.proofs.substitute_inverse as substitute-inverse
use Rattle.arithmetic.proofs.times as times

-- Of each: what it gives by the set that its key names (document 02, Job 7), and so, with set 0 named, what demand 2 says; its number in plain terms and what a refusal
-- returns and leaves (demand 1), for any set and with set 0 named; that a call in a history is answered so; and that it depends on the used words of the key only (document 01).

-- ---- expansion

module _ (κs : Lfts 1) where
  pub expands_for : (a : _) (z : _) (e : _) → expand.Reads.Learnt κs a z e → ExpandsFor a.0 a.1.0 a.1.1.0 a.1.1.1.0 a.1.1.1.1.0.now z
  expands_for a z e h = h

  pub expands : (a : _) (z : _) (e : _) → expand.Reads.Learnt κs a z e → a.1.1.1.0 ≡ 0 → Expands a.1.0 a.1.1.0 a.1.1.1.1.0.now z
  expands a z e h o = expands_at_zero a.0 a.1.0 a.1.1.0 a.1.1.1.0 a.1.1.1.1.0.now o h

  pub expand_answers_for : (a : _) (z : _) (e : _) → expand.Reads.Learnt κs a z e → AnswersKeyFor a.0 a.1.0 a.1.1.0 a.1.1.1.0 a.1.1.1.1.0.now z
  expand_answers_for a z e h = answers_key_for a.0 a.1.0 a.1.1.0 a.1.1.1.0 a.1.1.1.1.0.now h

  pub expand_answers : (a : _) (z : _) (e : _) → expand.Reads.Learnt κs a z e → a.1.1.1.0 ≡ 0 → AnswersKey a.1.0 a.1.1.0 a.1.1.1.1.0.now z
  expand_answers a z e h o = answers_key a.1.0 a.1.1.0 a.1.1.1.1.0.now (expands a z e h o)

  pub expand_as : (a : _) (z : _) (e : _) → expand.Reads.Learnt κs a z e
      → AnswersUse a.0 (use-expands a.1.0 a.1.1.0 a.1.1.1.0 a.1.1.1.1.0.now) (key z)
  expand_as a z e h = expands_as a.0 a.1.0 a.1.1.0 a.1.1.1.0 a.1.1.1.1.0.now h

  pub expand_unused_zero : (a : _) (z : _) (e : _) → expand.Reads.Learnt κs a z e → UnusedWordsZero z
  expand_unused_zero a z e h = unused_words_zero_for a.0 a.1.0 a.1.1.0 a.1.1.1.0 a.1.1.1.1.0.now h

-- ---- blocks: of demand 3, by matrix and by merged table

module _ (κs : Lfts 2) where
  pub enciphers_by_table_in : (a : _) (z : _) (e : _) → encipher-by-table.Reads.Learnt κs a z e → EnciphersIn a.0 a.1.0 a.1.1.0.now z a.1.1.1.0.now e.1.1.1.0.now
  enciphers_by_table_in a z e h = h

  pub enciphers_by_table : (a : _) (z : _) (e : _) → encipher-by-table.Reads.Learnt κs a z e → a.1.0.set ≡ 0 → Enciphers a.1.0 a.1.1.0.now z a.1.1.1.0.now e.1.1.1.0.now
  enciphers_by_table a z e h o = enciphers_at_zero a.0 a.1.0 o a.1.1.0.now a.1.1.1.0.now h

  pub encipher_by_table_answers_in : (a : _) (z : _) (e : _) → encipher-by-table.Reads.Learnt κs a z e → AnswersBlockIn a.0 a.1.0 a.1.1.0.now z a.1.1.1.0.now e.1.1.1.0.now
  encipher_by_table_answers_in a z e h = enciphers_answers_in a.0 a.1.0 a.1.1.0.now h

  pub encipher_by_table_answers : (a : _) (z : _) (e : _) → encipher-by-table.Reads.Learnt κs a z e → a.1.0.set ≡ 0 → AnswersBlock a.1.0 a.1.1.0.now z a.1.1.1.0.now e.1.1.1.0.now
  encipher_by_table_answers a z e h o = answers_block (E article a.1.0.n a.1.0.words) a.1.0 a.1.1.0.now (enciphers_by_table a z e h o)

  pub encipher_by_table_as : (a : _) (z : _) (e : _) → encipher-by-table.Reads.Learnt κs a z e → AnswersUse a.0 (enciphers a.1.0 a.1.1.0.now a.1.1.1.0.now) (buffer z e.1.1.1.0.now)
  encipher_by_table_as a z e h = enciphers_as a.0 a.1.0 a.1.1.0.now a.1.1.1.0.now h

  pub encipher_by_table_used : OfUsedWords {G = Store × ℕ × (List ℕ × List ℕ)} (encipher-by-table.Reads.Learnt κs) (λ a. a.1.0) (λ a. (a.0, a.1.0.set, (a.1.1.0.now, a.1.1.1.0.now))) (λ e. e.1.1.1.0.now)
  encipher_by_table_used a b y z e f h g s p = enciphers_used a.1.0 b.1.0 _ _ _ _ _ _ s p h g

  pub deciphers_by_table_in : (a : _) (z : _) (e : _) → decipher-by-table.Reads.Learnt κs a z e → DeciphersIn a.0 a.1.0 a.1.1.0.now z a.1.1.1.0.now e.1.1.1.0.now
  deciphers_by_table_in a z e h = h

  pub deciphers_by_table : (a : _) (z : _) (e : _) → decipher-by-table.Reads.Learnt κs a z e → a.1.0.set ≡ 0 → Deciphers a.1.0 a.1.1.0.now z a.1.1.1.0.now e.1.1.1.0.now
  deciphers_by_table a z e h o = deciphers_at_zero a.0 a.1.0 o a.1.1.0.now a.1.1.1.0.now h

  pub decipher_by_table_answers_in : (a : _) (z : _) (e : _) → decipher-by-table.Reads.Learnt κs a z e → AnswersBlockIn a.0 a.1.0 a.1.1.0.now z a.1.1.1.0.now e.1.1.1.0.now
  decipher_by_table_answers_in a z e h = deciphers_answers_in a.0 a.1.0 a.1.1.0.now h

  pub decipher_by_table_answers : (a : _) (z : _) (e : _) → decipher-by-table.Reads.Learnt κs a z e → a.1.0.set ≡ 0 → AnswersBlock a.1.0 a.1.1.0.now z a.1.1.1.0.now e.1.1.1.0.now
  decipher_by_table_answers a z e h o = answers_block (U article a.1.0.n a.1.0.words) a.1.0 a.1.1.0.now (deciphers_by_table a z e h o)

  pub decipher_by_table_as : (a : _) (z : _) (e : _) → decipher-by-table.Reads.Learnt κs a z e → AnswersUse a.0 (deciphers a.1.0 a.1.1.0.now a.1.1.1.0.now) (buffer z e.1.1.1.0.now)
  decipher_by_table_as a z e h = deciphers_as a.0 a.1.0 a.1.1.0.now a.1.1.1.0.now h

  pub decipher_by_table_used : OfUsedWords {G = Store × ℕ × (List ℕ × List ℕ)} (decipher-by-table.Reads.Learnt κs) (λ a. a.1.0) (λ a. (a.0, a.1.0.set, (a.1.1.0.now, a.1.1.1.0.now))) (λ e. e.1.1.1.0.now)
  decipher_by_table_used a b y z e f h g s p = deciphers_used a.1.0 b.1.0 _ _ _ _ _ _ s p h g

  pub enciphers_by_matrix_in : (a : _) (z : _) (e : _) → encipher-by-matrix.Reads.Learnt κs a z e → EnciphersIn a.0 a.1.0 a.1.1.0.now z a.1.1.1.0.now e.1.1.1.0.now
  enciphers_by_matrix_in a z e h = h

  pub enciphers_by_matrix : (a : _) (z : _) (e : _) → encipher-by-matrix.Reads.Learnt κs a z e → a.1.0.set ≡ 0 → Enciphers a.1.0 a.1.1.0.now z a.1.1.1.0.now e.1.1.1.0.now
  enciphers_by_matrix a z e h o = enciphers_at_zero a.0 a.1.0 o a.1.1.0.now a.1.1.1.0.now h

  pub encipher_by_matrix_answers_in : (a : _) (z : _) (e : _) → encipher-by-matrix.Reads.Learnt κs a z e → AnswersBlockIn a.0 a.1.0 a.1.1.0.now z a.1.1.1.0.now e.1.1.1.0.now
  encipher_by_matrix_answers_in a z e h = enciphers_answers_in a.0 a.1.0 a.1.1.0.now h

  pub encipher_by_matrix_answers : (a : _) (z : _) (e : _) → encipher-by-matrix.Reads.Learnt κs a z e → a.1.0.set ≡ 0 → AnswersBlock a.1.0 a.1.1.0.now z a.1.1.1.0.now e.1.1.1.0.now
  encipher_by_matrix_answers a z e h o = answers_block (E article a.1.0.n a.1.0.words) a.1.0 a.1.1.0.now (enciphers_by_matrix a z e h o)

  pub encipher_by_matrix_as : (a : _) (z : _) (e : _) → encipher-by-matrix.Reads.Learnt κs a z e → AnswersUse a.0 (enciphers a.1.0 a.1.1.0.now a.1.1.1.0.now) (buffer z e.1.1.1.0.now)
  encipher_by_matrix_as a z e h = enciphers_as a.0 a.1.0 a.1.1.0.now a.1.1.1.0.now h

  pub encipher_by_matrix_used : OfUsedWords {G = Store × ℕ × (List ℕ × List ℕ)} (encipher-by-matrix.Reads.Learnt κs) (λ a. a.1.0) (λ a. (a.0, a.1.0.set, (a.1.1.0.now, a.1.1.1.0.now))) (λ e. e.1.1.1.0.now)
  encipher_by_matrix_used a b y z e f h g s p = enciphers_used a.1.0 b.1.0 _ _ _ _ _ _ s p h g

  pub deciphers_by_matrix_in : (a : _) (z : _) (e : _) → decipher-by-matrix.Reads.Learnt κs a z e → DeciphersIn a.0 a.1.0 a.1.1.0.now z a.1.1.1.0.now e.1.1.1.0.now
  deciphers_by_matrix_in a z e h = h

  pub deciphers_by_matrix : (a : _) (z : _) (e : _) → decipher-by-matrix.Reads.Learnt κs a z e → a.1.0.set ≡ 0 → Deciphers a.1.0 a.1.1.0.now z a.1.1.1.0.now e.1.1.1.0.now
  deciphers_by_matrix a z e h o = deciphers_at_zero a.0 a.1.0 o a.1.1.0.now a.1.1.1.0.now h

  pub decipher_by_matrix_answers_in : (a : _) (z : _) (e : _) → decipher-by-matrix.Reads.Learnt κs a z e → AnswersBlockIn a.0 a.1.0 a.1.1.0.now z a.1.1.1.0.now e.1.1.1.0.now
  decipher_by_matrix_answers_in a z e h = deciphers_answers_in a.0 a.1.0 a.1.1.0.now h

  pub decipher_by_matrix_answers : (a : _) (z : _) (e : _) → decipher-by-matrix.Reads.Learnt κs a z e → a.1.0.set ≡ 0 → AnswersBlock a.1.0 a.1.1.0.now z a.1.1.1.0.now e.1.1.1.0.now
  decipher_by_matrix_answers a z e h o = answers_block (U article a.1.0.n a.1.0.words) a.1.0 a.1.1.0.now (deciphers_by_matrix a z e h o)

  pub decipher_by_matrix_as : (a : _) (z : _) (e : _) → decipher-by-matrix.Reads.Learnt κs a z e → AnswersUse a.0 (deciphers a.1.0 a.1.1.0.now a.1.1.1.0.now) (buffer z e.1.1.1.0.now)
  decipher_by_matrix_as a z e h = deciphers_as a.0 a.1.0 a.1.1.0.now a.1.1.1.0.now h

  pub decipher_by_matrix_used : OfUsedWords {G = Store × ℕ × (List ℕ × List ℕ)} (decipher-by-matrix.Reads.Learnt κs) (λ a. a.1.0) (λ a. (a.0, a.1.0.set, (a.1.1.0.now, a.1.1.1.0.now))) (λ e. e.1.1.1.0.now)
  decipher_by_matrix_used a b y z e f h g s p = deciphers_used a.1.0 b.1.0 _ _ _ _ _ _ s p h g

-- ---- substitution

module _ (κs : Lfts 0) where
  pub substitutes : (a : _) (z : _) (e : _) → substitute.Reads.Learnt κs a z e → Substitutes a.0 z
  substitutes a z e h = h

  pub substitutes_back : (a : _) (z : _) (e : _) → substitute-inverse.Reads.Learnt κs a z e → SubstitutesBack a.0 z
  substitutes_back a z e h = h

-- ---- runs

module _ (κs : Lfts 3) where
  pub seals_cbc_in : (a : _) (z : _) (e : _) → seal.Reads.Learnt κs a z e → SealsCbcIn a.0 a.1.0 a.1.1.0.now a.1.1.1.0.now z a.1.1.1.1.0.now e.1.1.1.1.0.now
  seals_cbc_in a z e h = h

  pub seals_cbc : (a : _) (z : _) (e : _) → seal.Reads.Learnt κs a z e → a.1.0.set ≡ 0 → SealsCbc a.1.0 a.1.1.0.now a.1.1.1.0.now z a.1.1.1.1.0.now e.1.1.1.1.0.now
  seals_cbc a z e h o = seals_at_zero a.0 a.1.0 o a.1.1.1.0.now a.1.1.1.1.0.now a.1.1.0.now h

  pub cbc_seal_answers_in : (a : _) (z : _) (e : _) → seal.Reads.Learnt κs a z e → AnswersCbcIn a.0 a.1.0 a.1.1.0.now a.1.1.1.0.now z a.1.1.1.1.0.now e.1.1.1.1.0.now
  cbc_seal_answers_in a z e h = seals_answers_in a.0 a.1.0 a.1.1.1.0.now a.1.1.0.now h

  pub cbc_seal_answers : (a : _) (z : _) (e : _) → seal.Reads.Learnt κs a z e → a.1.0.set ≡ 0 → AnswersCbc a.1.0 a.1.1.0.now a.1.1.1.0.now z a.1.1.1.1.0.now e.1.1.1.1.0.now
  cbc_seal_answers a z e h o = seals_answers a.1.0 a.1.1.0.now a.1.1.1.0.now (seals_cbc a z e h o)

  pub cbc_seal_as : (a : _) (z : _) (e : _) → seal.Reads.Learnt κs a z e → AnswersUse a.0 (seals a.1.0 a.1.1.0.now a.1.1.1.0.now a.1.1.1.1.0.now) (buffer z e.1.1.1.1.0.now)
  cbc_seal_as a z e h = seals_as a.0 a.1.0 a.1.1.1.0.now a.1.1.1.1.0.now a.1.1.0.now h

  pub cbc_seal_by_blocks_in : (a : _) (e : _) → seal.Reads.Learnt κs a 0 e → let k = a.1.0 in SealedBy (E (parts_in a.0 k.set) k.n k.words) (16 * k.n) a.1.1.0.now a.1.1.1.0.now e.1.1.1.1.0.now
  cbc_seal_by_blocks_in a e h = sealed_by_in a.0 a.1.0 a.1.1.0.now a.1.1.1.0.now a.1.1.1.1.0.now h

  pub cbc_seal_by_blocks : (a : _) (e : _) → seal.Reads.Learnt κs a 0 e → a.1.0.set ≡ 0 → SealedByBlocks a.1.0 a.1.1.0.now a.1.1.1.0.now e.1.1.1.1.0.now
  cbc_seal_by_blocks a e h o = sealed_by_blocks a.1.0 a.1.1.0.now a.1.1.1.0.now a.1.1.1.1.0.now (seals_cbc a 0 e h o)

  pub cbc_seal_used : OfUsedWords {G = Store × ℕ × (List ℕ × List ℕ × List ℕ)} (seal.Reads.Learnt κs) (λ a. a.1.0) (λ a. (a.0, a.1.0.set, (a.1.1.0.now, a.1.1.1.0.now, a.1.1.1.1.0.now))) (λ e. e.1.1.1.1.0.now)
  cbc_seal_used a b y z e f h g s p = seals_used a.1.0 b.1.0 _ _ _ _ _ _ s p h g

  pub opens_cbc_in : (a : _) (z : _) (e : _) → cbc-open.Reads.Learnt κs a z e → OpensCbcIn a.0 a.1.0 a.1.1.0.now a.1.1.1.0.now z a.1.1.1.1.0.now e.1.1.1.1.0.now
  opens_cbc_in a z e h = h

  pub opens_cbc : (a : _) (z : _) (e : _) → cbc-open.Reads.Learnt κs a z e → a.1.0.set ≡ 0 → OpensCbc a.1.0 a.1.1.0.now a.1.1.1.0.now z a.1.1.1.1.0.now e.1.1.1.1.0.now
  opens_cbc a z e h o = opens_at_zero a.0 a.1.0 o a.1.1.1.0.now a.1.1.1.1.0.now a.1.1.0.now h

  pub cbc_open_answers_in : (a : _) (z : _) (e : _) → cbc-open.Reads.Learnt κs a z e → AnswersCbcIn a.0 a.1.0 a.1.1.0.now a.1.1.1.0.now z a.1.1.1.1.0.now e.1.1.1.1.0.now
  cbc_open_answers_in a z e h = opens_answers_in a.0 a.1.0 a.1.1.1.0.now a.1.1.0.now h

  pub cbc_open_answers : (a : _) (z : _) (e : _) → cbc-open.Reads.Learnt κs a z e → a.1.0.set ≡ 0 → AnswersCbc a.1.0 a.1.1.0.now a.1.1.1.0.now z a.1.1.1.1.0.now e.1.1.1.1.0.now
  cbc_open_answers a z e h o = opens_answers a.1.0 a.1.1.0.now a.1.1.1.0.now (opens_cbc a z e h o)

  pub cbc_open_as : (a : _) (z : _) (e : _) → cbc-open.Reads.Learnt κs a z e → AnswersUse a.0 (opens a.1.0 a.1.1.0.now a.1.1.1.0.now a.1.1.1.1.0.now) (buffer z e.1.1.1.1.0.now)
  cbc_open_as a z e h = opens_as a.0 a.1.0 a.1.1.1.0.now a.1.1.1.1.0.now a.1.1.0.now h

  pub cbc_open_by_blocks_in : (a : _) (e : _) → cbc-open.Reads.Learnt κs a 0 e → let k = a.1.0 in OpenedBy (U (parts_in a.0 k.set) k.n k.words) (16 * k.n) a.1.1.0.now a.1.1.1.0.now e.1.1.1.1.0.now
  cbc_open_by_blocks_in a e h = opened_by_in a.0 a.1.0 a.1.1.0.now a.1.1.1.0.now a.1.1.1.1.0.now h

  pub cbc_open_by_blocks : (a : _) (e : _) → cbc-open.Reads.Learnt κs a 0 e → a.1.0.set ≡ 0 → OpenedByBlocks a.1.0 a.1.1.0.now a.1.1.1.0.now e.1.1.1.1.0.now
  cbc_open_by_blocks a e h o = opened_by_blocks a.1.0 a.1.1.0.now a.1.1.1.0.now a.1.1.1.1.0.now (opens_cbc a 0 e h o)

  pub cbc_open_used : OfUsedWords {G = Store × ℕ × (List ℕ × List ℕ × List ℕ)} (cbc-open.Reads.Learnt κs) (λ a. a.1.0) (λ a. (a.0, a.1.0.set, (a.1.1.0.now, a.1.1.1.0.now, a.1.1.1.1.0.now))) (λ e. e.1.1.1.1.0.now)
  cbc_open_used a b y z e f h g s p = opens_used a.1.0 b.1.0 _ _ _ _ _ _ s p h g

  pub runs_ctr_in : (a : _) (z : _) (e : _) → run.Reads.Learnt κs a z e → RunsCtrIn a.0 a.1.0 a.1.1.0.now a.1.1.1.0 a.1.1.1.1.0.now z a.1.1.1.1.1.0.now e.1.1.1.1.1.0.now
  runs_ctr_in a z e h = h

  pub runs_ctr : (a : _) (z : _) (e : _) → run.Reads.Learnt κs a z e → a.1.0.set ≡ 0 → RunsCtr a.1.0 a.1.1.0.now a.1.1.1.0 a.1.1.1.1.0.now z a.1.1.1.1.1.0.now e.1.1.1.1.1.0.now
  runs_ctr a z e h o = runs_at_zero a.0 a.1.0 o a.1.1.1.1.0.now a.1.1.1.1.1.0.now a.1.1.0.now a.1.1.1.0 h

  pub ctr_run_answers_in : (a : _) (z : _) (e : _) → run.Reads.Learnt κs a z e → AnswersCtrIn a.0 a.1.0 a.1.1.0.now a.1.1.1.1.0.now z a.1.1.1.1.1.0.now e.1.1.1.1.1.0.now
  ctr_run_answers_in a z e h = runs_answers_in a.0 a.1.0 a.1.1.1.1.0.now a.1.1.0.now a.1.1.1.0 h

  pub ctr_run_answers : (a : _) (z : _) (e : _) → run.Reads.Learnt κs a z e → a.1.0.set ≡ 0 → AnswersCtr a.1.0 a.1.1.0.now a.1.1.1.1.0.now z a.1.1.1.1.1.0.now e.1.1.1.1.1.0.now
  ctr_run_answers a z e h o = ctr_answers a.1.0 a.1.1.0.now a.1.1.1.1.0.now a.1.1.1.0 (runs_ctr a z e h o)

  pub ctr_run_as : (a : _) (z : _) (e : _) → run.Reads.Learnt κs a z e → AnswersUse a.0 (counts a.1.0 a.1.1.0.now a.1.1.1.0 a.1.1.1.1.0.now a.1.1.1.1.1.0.now) (buffer z e.1.1.1.1.1.0.now)
  ctr_run_as a z e h = runs_as a.0 a.1.0 a.1.1.1.1.0.now a.1.1.1.1.1.0.now a.1.1.0.now a.1.1.1.0 h

  pub ctr_run_by_blocks_in : (a : _) (e : _) → run.Reads.Learnt κs a 0 e → let k = a.1.0 in CountedBy (E (parts_in a.0 k.set) k.n k.words) (16 * k.n) a.1.1.0.now a.1.1.1.0 a.1.1.1.1.0.now e.1.1.1.1.1.0.now
  ctr_run_by_blocks_in a e h = counted_by_in a.0 a.1.0 a.1.1.0.now a.1.1.1.1.0.now a.1.1.1.1.1.0.now a.1.1.1.0 h

  pub ctr_run_by_blocks : (a : _) (e : _) → run.Reads.Learnt κs a 0 e → a.1.0.set ≡ 0 → CountedByBlocks a.1.0 a.1.1.0.now a.1.1.1.0 a.1.1.1.1.0.now e.1.1.1.1.1.0.now
  ctr_run_by_blocks a e h o = counted_by_blocks a.1.0 a.1.1.0.now a.1.1.1.0 a.1.1.1.1.0.now a.1.1.1.1.1.0.now (runs_ctr a 0 e h o)

  pub ctr_run_used : OfUsedWords {G = Store × ℕ × (List ℕ × ℕ × List ℕ × List ℕ)} (run.Reads.Learnt κs) (λ a. a.1.0) (λ a. (a.0, a.1.0.set, (a.1.1.0.now, a.1.1.1.0, a.1.1.1.1.0.now, a.1.1.1.1.1.0.now))) (λ e. e.1.1.1.1.1.0.now)
  ctr_run_used a b y z e f h g s p = runs_used a.1.0 b.1.0 _ _ _ _ _ _ s p h g

  -- of demand 3: a sealing call, and an opening call on what it left, both taken. The second has the first's key, start block and offset; its store is any
  pub cbc_opened : (a : _) (e : _) → seal.Reads.Learnt κs a 0 e → (κs' : Lfts 3) (b : _) (f : _) → cbc-open.Reads.Learnt κs' b 0 f → a.1.0.set ≡ 0
      → b.1.0 ≡ a.1.0 → b.1.1.0.now ≡ a.1.1.0.now → b.1.1.1.0.now ≡ e.1.1.1.1.0.now → Words a.1.0.words → Bytes a.1.1.0.now → Bytes a.1.1.1.0.now
      → f.1.1.1.1.0.now ≡ a.1.1.1.0.now
  cbc_opened a e h κs' b f g o k s d w hs hp =
      cbc_calls_open a.1.0 a.1.1.0.now a.1.1.1.0.now a.1.1.1.1.0.now e.1.1.1.1.0.now b.1.1.1.1.0.now f.1.1.1.1.0.now w hs hp
      (seals_cbc a 0 e h o)
      (opened b.1.1.1.1.0.now k s d (opens_at_zero b.0 b.1.0 (ap (λ (k : WorkingKey). k.set) k ∙ o) b.1.1.1.0.now b.1.1.1.1.0.now b.1.1.0.now g))
    where
      opened : (old : List ℕ) {k j : WorkingKey} {start start' source source' new : List ℕ} → j ≡ k → start' ≡ start → source' ≡ source → OpensCbc j start' source' 0 old new
          → OpensCbc k start source 0 old new
      opened old p q r g = rw (sym p, sym q, sym r) g

  pub ctr_opened : (a : _) (e : _) → run.Reads.Learnt κs a 0 e → (κs' : Lfts 3) (b : _) (f : _) → run.Reads.Learnt κs' b 0 f → a.1.0.set ≡ 0
      → b.1.0 ≡ a.1.0 → b.1.1.0.now ≡ a.1.1.0.now → b.1.1.1.0 ≡ a.1.1.1.0 → b.1.1.1.1.0.now ≡ e.1.1.1.1.1.0.now
      → f.1.1.1.1.1.0.now ≡ a.1.1.1.1.0.now
  ctr_opened a e h κs' b f g o k s q d =
      ctr_calls_open a.1.0 a.1.1.0.now a.1.1.1.0 a.1.1.1.1.0.now a.1.1.1.1.1.0.now e.1.1.1.1.1.0.now b.1.1.1.1.1.0.now f.1.1.1.1.1.0.now
      (runs_ctr a 0 e h o)
      (opened b.1.1.1.1.1.0.now k s q d (runs_at_zero b.0 b.1.0 (ap (λ (k : WorkingKey). k.set) k ∙ o) b.1.1.1.1.0.now b.1.1.1.1.1.0.now b.1.1.0.now b.1.1.1.0 g))
    where
      opened : (old : List ℕ) {k j : WorkingKey} {start start' source source' new : List ℕ} {q q' : ℕ} → j ≡ k → start' ≡ start → q' ≡ q → source' ≡ source
          → RunsCtr j start' q' source' 0 old new → RunsCtr k start q source 0 old new
      opened old p q o r g = rw (sym p, sym q, sym o, sym r) g

-- ---- the tape

module _ (κs : Lfts 0) where
  pub fresh_state : (a : _) (z : _) (e : _) → fresh.Reads.Learnt κs a z e → Fresh z
  fresh_state a z e h = h

module _ (κs : Lfts 2) where
  pub steps : (a : _) (z : _) (e : _) → tape-step.Reads.Learnt κs a z e → Steps a.0 a.1.0.now z a.1.1.0.now e.1.1.0.now
  steps a z e h = h

  pub step_answers : (a : _) (z : _) (e : _) → tape-step.Reads.Learnt κs a z e → AnswersStep a.0 a.1.0.now z a.1.1.0.now e.1.1.0.now
  step_answers a z e h = answers_step a.0 a.1.0.now h

  pub step_used : StepsOfUsedWords {G = List ℕ × List ℕ} (tape-step.Reads.Learnt κs) (λ a. a.0) (λ a. (a.1.0.now, a.1.1.0.now)) (λ e. e.1.1.0.now)
  step_used a b y z e f h g s p = steps_alike a.0 b.0 s p h g

  pub works_tape : (a : _) (z : _) (e : _) → tape-run.Reads.Learnt κs a z e → WorksTape a.0.now z a.1.0.now e.1.0.now
  works_tape a z e h = h

  pub tape_answers_lem : (a : _) (z : _) (e : _) → tape-run.Reads.Learnt κs a z e → AnswersTape a.0.now z a.1.0.now e.1.0.now
  tape_answers_lem a z e h = answers_tape a.0.now h

  pub tape_tells_its_end : (a : _) (z : _) (e : _) → tape-run.Reads.Learnt κs a z e → TellsItsEnd a.0.now z e.1.0.now
  tape_tells_its_end a z e h = tells_its_end a.0.now a.1.0.now h

-- ---- demand 3: functions that make both calls of a round trip, with any two stores; mixing is below, with the row that it takes since Job 4

module _ (κs : Lfts 4) where
  pub cbc_comes_back_in : (a : _) (z : _) (e : _) → cbc-there-and-back.Reads.Learnt κs a z e
      → let k = a.1.1.0 in
      let start = length a.1.1.1.0.now in
      let mid = length a.1.1.1.1.1.0.now in
      ComesBackIn a.0 a.1.0 k (cbc_refusal k.n start (length a.1.1.1.1.0.now) mid) (cbc_refusal k.n start mid (length a.1.1.1.1.1.1.0.now))
      a.1.1.1.1.0.now z a.1.1.1.1.1.1.0.now e.1.1.1.1.1.1.0.now
  cbc_comes_back_in a z e h = (h.0, h.1.1.1)

  pub cbc_comes_back : (a : _) (z : _) (e : _) → cbc-there-and-back.Reads.Learnt κs a z e → a.1.1.0.set ≡ 0
      → let k = a.1.1.0 in
      let start = length a.1.1.1.0.now in
      let mid = length a.1.1.1.1.1.0.now in
      ComesBack (cbc_refusal k.n start (length a.1.1.1.1.0.now) mid) (cbc_refusal k.n start mid (length a.1.1.1.1.1.1.0.now))
      a.1.1.1.1.0.now z a.1.1.1.1.1.1.0.now e.1.1.1.1.1.1.0.now
  cbc_comes_back a z e h o =
      let k = a.1.1.0 in
      let start = length a.1.1.1.0.now in
      let mid = length a.1.1.1.1.1.0.now in
      both_at_zero a.0 a.1.0 k a.1.1.1.1.0.now a.1.1.1.1.1.1.0.now o (cbc_one k.n start (length a.1.1.1.1.0.now) mid) (cbc_one k.n start mid (length a.1.1.1.1.1.1.0.now)) (cbc_comes_back_in a z e h)

  pub ctr_comes_back_in : (a : _) (z : _) (e : _) → ctr-there-and-back.Reads.Learnt κs a z e
      → let k = a.1.1.0 in
      let start = length a.1.1.1.0.now in
      let mid = length a.1.1.1.1.1.1.0.now in
      ComesBackIn a.0 a.1.0 k (ctr_refusal k.n start (length a.1.1.1.1.1.0.now) mid) (ctr_refusal k.n start mid (length a.1.1.1.1.1.1.1.0.now))
      a.1.1.1.1.1.0.now z a.1.1.1.1.1.1.1.0.now e.1.1.1.1.1.1.1.0.now
  ctr_comes_back_in a z e h = (h.0, h.1.1.1)

  pub ctr_comes_back : (a : _) (z : _) (e : _) → ctr-there-and-back.Reads.Learnt κs a z e → a.1.1.0.set ≡ 0
      → let k = a.1.1.0 in
      let start = length a.1.1.1.0.now in
      let mid = length a.1.1.1.1.1.1.0.now in
      ComesBack (ctr_refusal k.n start (length a.1.1.1.1.1.0.now) mid) (ctr_refusal k.n start mid (length a.1.1.1.1.1.1.1.0.now))
      a.1.1.1.1.1.0.now z a.1.1.1.1.1.1.1.0.now e.1.1.1.1.1.1.1.0.now
  ctr_comes_back a z e h o =
      let k = a.1.1.0 in
      let start = length a.1.1.1.0.now in
      let mid = length a.1.1.1.1.1.1.0.now in
      both_at_zero a.0 a.1.0 k a.1.1.1.1.1.0.now a.1.1.1.1.1.1.1.0.now o (ctr_one k.n start (length a.1.1.1.1.1.0.now) mid) (ctr_one k.n start mid (length a.1.1.1.1.1.1.1.0.now)) (ctr_comes_back_in a z e h)

-- ---- document 02, Job 1, and by any set Job 7

module _ (κs : Lfts 2) where
  pub makes_tag_in : (a : _) (z : _) (e : _) → make.Reads.Learnt κs a z e → MakesTagIn a.0 a.1.0 a.1.1.0.now z a.1.1.1.0.now e.1.1.1.0.now
  makes_tag_in a z e h = h

  pub makes_tag : (a : _) (z : _) (e : _) → make.Reads.Learnt κs a z e → a.1.0.set ≡ 0 → MakesTag a.1.0 a.1.1.0.now z a.1.1.1.0.now e.1.1.1.0.now
  makes_tag a z e h o = makes_at_zero a.0 a.1.0 o a.1.1.0.now a.1.1.1.0.now h

  pub verifies_tag_in : (a : _) (z : _) (e : _) → verify.Reads.Learnt κs a z e → VerifiesTagIn a.0 a.1.0 a.1.1.0.now a.1.1.1.0.now z
  verifies_tag_in a z e h = h

  pub verifies_tag : (a : _) (z : _) (e : _) → verify.Reads.Learnt κs a z e → a.1.0.set ≡ 0 → VerifiesTag a.1.0 a.1.1.0.now a.1.1.1.0.now z
  verifies_tag a z e h o = verifies_at_zero a.0 a.1.0 o a.1.1.0.now a.1.1.1.0.now h

  pub make_answers_in : (a : _) (z : _) (e : _) → make.Reads.Learnt κs a z e → AnswersTagIn a.0 a.1.0 z a.1.1.1.0.now e.1.1.1.0.now
  make_answers_in a z e h = makes_answers_in a.0 a.1.0 a.1.1.0.now h

  pub make_answers : (a : _) (z : _) (e : _) → make.Reads.Learnt κs a z e → a.1.0.set ≡ 0 → AnswersTag a.1.0 z a.1.1.1.0.now e.1.1.1.0.now
  make_answers a z e h o = answers_tag a.1.0 a.1.1.0.now (makes_tag a z e h o)

  pub verify_answers_in : (a : _) (z : _) (e : _) → verify.Reads.Learnt κs a z e → AnswersVerifyingIn a.0 a.1.0 a.1.1.1.0.now z
  verify_answers_in a z e h = verifies_answers_in a.0 a.1.0 a.1.1.0.now a.1.1.1.0.now h

  pub verify_answers : (a : _) (z : _) (e : _) → verify.Reads.Learnt κs a z e → a.1.0.set ≡ 0 → AnswersVerifying a.1.0 a.1.1.1.0.now z
  verify_answers a z e h o = answers_verifying a.1.0 a.1.1.0.now a.1.1.1.0.now (verifies_tag a z e h o)

  pub verify_yes_exactly_in : (a : _) (z : _) (e : _) → verify.Reads.Learnt κs a z e → YesExactlyIn a.0 a.1.0 a.1.1.0.now a.1.1.1.0.now z
  verify_yes_exactly_in a z e h = yes_exactly_in a.0 a.1.0 a.1.1.0.now a.1.1.1.0.now h

  pub verify_yes_exactly : (a : _) (z : _) (e : _) → verify.Reads.Learnt κs a z e → a.1.0.set ≡ 0 → YesExactly a.1.0 a.1.1.0.now a.1.1.1.0.now z
  verify_yes_exactly a z e h o = yes_exactly a.1.0 a.1.1.0.now a.1.1.1.0.now (verifies_tag a z e h o)

  pub make_as : (a : _) (z : _) (e : _) → make.Reads.Learnt κs a z e → AnswersUse a.0 (tags a.1.0 a.1.1.0.now a.1.1.1.0.now) (buffer z e.1.1.1.0.now)
  make_as a z e h = makes_as a.0 a.1.0 a.1.1.0.now a.1.1.1.0.now h

  pub verify_as : (a : _) (z : _) (e : _) → verify.Reads.Learnt κs a z e → AnswersUse a.0 (verifies a.1.0 a.1.1.0.now a.1.1.1.0.now) (verdict z)
  verify_as a z e h = verifies_as a.0 a.1.0 a.1.1.0.now a.1.1.1.0.now h

  pub make_used : OfUsedWords {G = Store × ℕ × (List ℕ × List ℕ)} (make.Reads.Learnt κs) (λ a. a.1.0) (λ a. (a.0, a.1.0.set, (a.1.1.0.now, a.1.1.1.0.now))) (λ e. e.1.1.1.0.now)
  make_used a b y z e f h g s p = tags_used a.1.0 b.1.0 _ _ _ _ _ _ s p h g

  -- nothing is lent to be written
  pub verify_used : OfUsedWords {G = Store × ℕ × (List ℕ × List ℕ)} {L = ℕ} (verify.Reads.Learnt κs) (λ a. a.1.0) (λ a. (a.0, a.1.0.set, (a.1.1.0.now, a.1.1.1.0.now))) (λ e. 0)
  verify_used a b y z e f h g s p = (verifies_used a.1.0 b.1.0 _ _ _ _ s p h g, refl)

  pub gets_yes : (a : _) (z : _) (e : _) → tag-made-and-verified.Reads.Learnt κs a z e
      → let k = a.1.0 in GetsYes (under_key k.n (loaded a.0 k.set) (cmac_refusal k.n (length a.1.1.1.0.now))) z
  gets_yes a z e h =
      let k = a.1.0 in
      let r = under_key k.n (loaded a.0 k.set) (cmac_refusal k.n (length a.1.1.1.0.now)) in (
        ap (λ (v : Verified). v.number) h.0,
        (λ y. eqb-true r 0 (sym (ap (λ (v : Verified). v.yes) h.0) ∙ y), λ p. ap (λ (v : Verified). v.yes) h.0 ∙ eq-eqb r 0 p),
      )

-- ---- document 02, Job 3

module _ (κs : Lfts 0) where
  pub multiplies : (a : _) (z : _) (e : _) → times.Reads.Learnt κs a z e → Multiplies a.0 a.1.0 z
  multiplies a z e h = h

-- ---- document 02, Job 4, and of demand 3 mixing

module _ (κs : Lfts 0) where
  pub mixes_by : (a : _) (z : _) (e : _) → mix-word.Reads.Learnt κs a z e → MixesBy a.0 a.1.0 z
  mixes_by a z e h = h

  pub mix_answers : (a : _) (z : _) (e : _) → mix-word.Reads.Learnt κs a z e → AnswersMixing a.0 a.1.0 z
  mix_answers a z e h = answers_mixing a.0 a.1.0 h

  pub mixes_as_before : (a : _) (z : _) (e : _) → mix-word.Reads.Learnt κs a z e → MixesAsBefore a.0 a.1.0 z
  mixes_as_before a z e h r = published_mixed a.1.0 r h

module _ (κs : Lfts 1) where
  pub makes_table : (a : _) (z : _) (e : _) → make-table.Reads.Learnt κs a z e → MakesTable a.0 z a.1.0.now e.1.0.now
  makes_table a z e h = h

  pub table_answers : (a : _) (z : _) (e : _) → make-table.Reads.Learnt κs a z e → AnswersTable a.0 z a.1.0.now e.1.0.now
  table_answers a z e h = answers_table a.0 h

  pub table_looks_up : (a : _) (z : _) (e : _) → make-table.Reads.Learnt κs a z e → LooksUp a.0 z e.1.0.now
  table_looks_up a z e h = looks_up_lem a.0 a.1.0.now e.1.0.now h

  pub finds_mixed : (κs' : Lfts 1) (b : _) (w : _) (f : _) → look_up.Reads.Learnt κs' b w f → (a : _) (z : _) (e : _)
      → make-table.Reads.Learnt κs a z e → FindsMixed a.0 z e.1.0.now b.0.now b.1.0 w
  finds_mixed κs' b w f p a z e h done same =
      p ∙ ap (λ (t : List ℕ). lookup t b.1.0) same ∙ table_looks_up a z e h done b.1.0

  -- beside what the constant table's function hands out, t
  pub makes_the_table_lent : (κs' : Lfts 0) (b : _) (t : _) (f : _) → merged-table.Reads.Learnt κs' b t f → (a : _) (z : _) (e : _)
      → make-table.Reads.Learnt κs a z e → MakesTheTableLent a.0 a.1.0.now e.1.0.now t
  makes_the_table_lent κs' b t f p a z e h = published_table a.0 a.1.0.now e.1.0.now h p

-- ---- document 02, Job 5

module _ (κs : Lfts 0) where
  pub multiplies_rows : (a : _) (z : _) (e : _) → product-of-rows.Reads.Learnt κs a z e → MultipliesRows a.0 a.1.0 z
  multiplies_rows a z e h = h

  pub inverts : (a : _) (z : _) (e : _) → inverse-of-row.Reads.Learnt κs a z e → Inverts a.0 z
  inverts a z e h = h

  pub inverse_answers : (a : _) (z : _) (e : _) → inverse-of-row.Reads.Learnt κs a z e → Row a.0 → AnswersInverse a.0 z
  inverse_answers a z e h r = one_inverse a.0 z r h

  pub converts_word : (a : _) (z : _) (e : _) → word-converted.Reads.Learnt κs a z e → ConvertsWord a.0 a.1.0 a.1.1.0 z
  converts_word a z e h = h

-- ---- document 02, Job 6

module _ (κs : Lfts 0) where
  pub judges : (a : _) (z : _) (e : _) → judge-of-rows.Reads.Learnt κs a z e → Judges a.0 z
  judges a z e h = h

-- ---- document 02, Job 7: the operations on stores

module _ (κs : Lfts 0) where
  pub makes_fresh : (a : _) (z : _) (e : _) → fresh-store.Reads.Learnt κs a z e → MakesFresh z
  makes_fresh a z e h = h

  pub takes_set : (a : _) (z : _) (e : _) → take-set.Reads.Learnt κs a z e → Takes a.0 a.1.0 a.1.1.0 z
  takes_set a z e h = h

  pub take_answers : (a : _) (z : _) (e : _) → take-set.Reads.Learnt κs a z e → AnswersTake a.0 a.1.0 a.1.1.0 z
  take_answers a z e h = answers_take a.0 a.1.0 a.1.1.0 h

  pub take_as : (a : _) (z : _) (e : _) → take-set.Reads.Learnt κs a z e → AnswersCall a.0 (takes a.1.0 a.1.1.0) z
  take_as a z e h = takes_as a.0 a.1.0 a.1.1.0 h

module _ (κs : Lfts 1) where
  pub loads_set : (a : _) (z : _) (e : _) → Load-set.Reads.Learnt κs a z e → Loads a.0 a.1.0 a.1.1.0 a.1.1.1.0.now a.1.1.1.1.0 z
  loads_set a z e h = h

  pub load_answers : (a : _) (z : _) (e : _) → Load-set.Reads.Learnt κs a z e → AnswersLoad a.0 a.1.0 a.1.1.0 a.1.1.1.0.now a.1.1.1.1.0 z
  load_answers a z e h = answers_load a.0 a.1.0 a.1.1.0 a.1.1.1.0.now a.1.1.1.1.0 h

  pub load_as : (a : _) (z : _) (e : _) → Load-set.Reads.Learnt κs a z e
      → AnswersCall a.0 (loads a.1.0 a.1.1.0 a.1.1.1.0.now a.1.1.1.1.0) z
  load_as a z e h = loads_as a.0 a.1.0 a.1.1.0 a.1.1.1.0.now a.1.1.1.1.0 h

-- ---- document 02, Job 8

module _ (κs : Lfts 2) where
  pub wraps_key_in : (a : _) (z : _) (e : _) → wrap.Reads.Learnt κs a z e → WrapsKeyIn a.0 a.1.0 a.1.1.0.now z a.1.1.1.0.now e.1.1.1.0.now
  wraps_key_in a z e h = h

  pub wraps_key : (a : _) (z : _) (e : _) → wrap.Reads.Learnt κs a z e → a.1.0.set ≡ 0 → WrapsKey a.1.0 a.1.1.0.now z a.1.1.1.0.now e.1.1.1.0.now
  wraps_key a z e h o = wraps_at_zero a.0 a.1.0 o a.1.1.0.now a.1.1.1.0.now h

  pub wrap_answers_in : (a : _) (z : _) (e : _) → wrap.Reads.Learnt κs a z e → AnswersWrappingIn a.0 a.1.0 a.1.1.0.now z a.1.1.1.0.now e.1.1.1.0.now
  wrap_answers_in a z e h = answers_wrapping_in a.1.0 a.1.1.0.now a.0 h

  pub wrap_answers : (a : _) (z : _) (e : _) → wrap.Reads.Learnt κs a z e → a.1.0.set ≡ 0 → AnswersWrapping a.1.0 a.1.1.0.now z a.1.1.1.0.now e.1.1.1.0.now
  wrap_answers a z e h o = answers_wrapping a.1.0 a.1.1.0.now (wraps_key a z e h o)

  pub wrap_as : (a : _) (z : _) (e : _) → wrap.Reads.Learnt κs a z e → AnswersUse a.0 (wraps a.1.0 a.1.1.0.now a.1.1.1.0.now) (buffer z e.1.1.1.0.now)
  wrap_as a z e h = wraps_as a.0 a.1.0 a.1.1.0.now a.1.1.1.0.now h

  pub wrap_used : OfUsedWords {G = Store × ℕ × (List ℕ × List ℕ)} (wrap.Reads.Learnt κs) (λ a. a.1.0) (λ a. (a.0, a.1.0.set, (a.1.1.0.now, a.1.1.1.0.now))) (λ e. e.1.1.1.0.now)
  wrap_used a b y z e f h g s p = wraps_used a.1.0 b.1.0 _ _ _ _ _ _ s p h g

  pub unwraps_key_in : (a : _) (z : _) (e : _) → unwrap.Reads.Learnt κs a z e → UnwrapsKeyIn a.0 a.1.0 a.1.1.0.now z a.1.1.1.0.now e.1.1.1.0.now
  unwraps_key_in a z e h = h

  pub unwraps_key : (a : _) (z : _) (e : _) → unwrap.Reads.Learnt κs a z e → a.1.0.set ≡ 0 → UnwrapsKey a.1.0 a.1.1.0.now z a.1.1.1.0.now e.1.1.1.0.now
  unwraps_key a z e h o = unwraps_at_zero a.0 a.1.0 o a.1.1.0.now a.1.1.1.0.now h

  pub unwrap_answers_in : (a : _) (z : _) (e : _) → unwrap.Reads.Learnt κs a z e → AnswersUnwrappingIn a.0 a.1.0 a.1.1.0.now z a.1.1.1.0.now e.1.1.1.0.now
  unwrap_answers_in a z e h = answers_unwrapping_in a.1.0 a.1.1.0.now a.0 h

  pub unwrap_answers : (a : _) (z : _) (e : _) → unwrap.Reads.Learnt κs a z e → a.1.0.set ≡ 0 → AnswersUnwrapping a.1.0 a.1.1.0.now z a.1.1.1.0.now e.1.1.1.0.now
  unwrap_answers a z e h o = answers_unwrapping a.1.0 a.1.1.0.now (unwraps_key a z e h o)

  pub unwrap_as : (a : _) (z : _) (e : _) → unwrap.Reads.Learnt κs a z e → AnswersUse a.0 (unwraps a.1.0 a.1.1.0.now a.1.1.1.0.now) (buffer z e.1.1.1.0.now)
  unwrap_as a z e h = unwraps_as a.0 a.1.0 a.1.1.0.now a.1.1.1.0.now h

  pub unwrap_used : OfUsedWords {G = Store × ℕ × (List ℕ × List ℕ)} (unwrap.Reads.Learnt κs) (λ a. a.1.0) (λ a. (a.0, a.1.0.set, (a.1.1.0.now, a.1.1.1.0.now))) (λ e. e.1.1.1.0.now)
  unwrap_used a b y z e f h g s p = unwraps_used a.1.0 b.1.0 _ _ _ _ _ _ s p h g

-- functions that make both calls, with any two stores
module _ (κs : Lfts 3) where
  pub key_comes_back_in : (a : _) (z : _) (e : _) → key-wrapped-and-unwrapped.Reads.Learnt κs a z e
      → let k = a.1.1.0 in
      let source = a.1.1.1.0.now in
      let mid = length a.1.1.1.1.0.now in
      KeyComesBackIn a.0 a.1.0 k (wrap_refusal k.n (length source) mid) (unwrap_refusal k.n mid (length a.1.1.1.1.1.0.now))
      (authentic (U (parts_in a.1.0 k.set) k.n k.words) (wrapped (E (parts_in a.0 k.set) k.n k.words) source)) source z a.1.1.1.1.1.0.now e.1.1.1.1.1.0.now
  key_comes_back_in a z e h = ((h.0, h.1.1.1.1), h.1.1.1.0)

  pub key_comes_back : (a : _) (z : _) (e : _) → key-wrapped-and-unwrapped.Reads.Learnt κs a z e → a.1.1.0.set ≡ 0
      → let k = a.1.1.0 in
      let mid = length a.1.1.1.1.0.now in
      ComesBack (wrap_refusal k.n (length a.1.1.1.0.now) mid) (unwrap_refusal k.n mid (length a.1.1.1.1.1.0.now) true)
      a.1.1.1.0.now z a.1.1.1.1.1.0.now e.1.1.1.1.1.0.now
  key_comes_back a z e h o =
      let k = a.1.1.0 in
      let mid = length a.1.1.1.1.0.now in
      let room = length a.1.1.1.1.1.0.now in
      key_back_at_zero a.0 a.1.0 k (unwrap_refusal k.n mid room) _ a.1.1.1.0.now a.1.1.1.1.1.0.now o (wrap_one k.n (length a.1.1.1.0.now) mid) (unwrap_one k.n mid room true) (key_comes_back_in a z e h)

  pub sent_comes_back_in : (a : _) (z : _) (e : _) → key-unwrapped-and-wrapped.Reads.Learnt κs a z e
      → let k = a.1.1.0 in
      let source = a.1.1.1.0.now in
      let mid = length a.1.1.1.1.0.now in
      ComesBackIn a.0 a.1.0 k (unwrap_refusal k.n (length source) mid (authentic (U (parts_in a.0 k.set) k.n k.words) source)) (wrap_refusal k.n mid (length a.1.1.1.1.1.0.now))
      source z a.1.1.1.1.1.0.now e.1.1.1.1.1.0.now
  sent_comes_back_in a z e h = (h.0, h.1.1.1)

  pub sent_comes_back : (a : _) (z : _) (e : _) → key-unwrapped-and-wrapped.Reads.Learnt κs a z e → a.1.1.0.set ≡ 0
      → let k = a.1.1.0 in
      let source = a.1.1.1.0.now in
      let mid = length a.1.1.1.1.0.now in
      ComesBack (unwrap_refusal k.n (length source) mid (authentic (U article k.n k.words) source)) (wrap_refusal k.n mid (length a.1.1.1.1.1.0.now))
      source z a.1.1.1.1.1.0.now e.1.1.1.1.1.0.now
  sent_comes_back a z e h o =
      let k = a.1.1.0 in
      let source = a.1.1.1.0.now in
      let mid = length a.1.1.1.1.0.now in
      let room = a.1.1.1.1.1.0.now in
      subst (λ (p : Parts). ComesBack (unwrap_refusal k.n (length source) mid (authentic (U p k.n k.words) source)) (wrap_refusal k.n mid (length room)) source z room e.1.1.1.1.1.0.now) (parts_zero a.0 k.set o)
      (both_at_zero a.0 a.1.0 k source room o (unwrap_one k.n (length source) mid _) (wrap_one k.n mid (length room)) (sent_comes_back_in a z e h))

-- ---- document 02, Job 9

-- the catalogue reader
module _ (κs : Lfts 1) where
  pub reads_entry : (a : _) (z : _) (e : _) → catalogue-page.Reads.Learnt κs a z e → ReadsEntry a.0.now z
  reads_entry a z e h = h

  pub entry_answers : (a : _) (z : _) (e : _) → catalogue-page.Reads.Learnt κs a z e → Bytes a.0.now → AnswersEntry a.0.now z
  entry_answers a z e h b = answers_entry a.0.now b h

  pub reads_title : (a : _) (z : _) (e : _) → title-of-page.Reads.Learnt κs a z e → ReadsTitle a.0.now z.now
  reads_title a z e h = h

  pub title_answers : (a : _) (z : _) (e : _) → title-of-page.Reads.Learnt κs a z e → Bytes a.0.now → AnswersTitle a.0.now z.now
  title_answers a z e h b = answers_title a.0.now b h

-- the writer: a store, the sealing key, the tag key, number, day, title, start block, body, destination
module _ (κs : Lfts 4) where
  pub writes_page : (a : _) (z : _) (e : _) → write-page.Reads.Learnt κs a z e
      → WritesPage a.0 a.1.0 a.1.1.0 a.1.1.1.0 a.1.1.1.1.0 a.1.1.1.1.1.0.now a.1.1.1.1.1.1.0.now a.1.1.1.1.1.1.1.0.now z
      a.1.1.1.1.1.1.1.1.0.now e.1.1.1.1.1.1.1.1.0.now
  writes_page a z e h = h

  pub page_write_answers : (a : _) (z : _) (e : _) → write-page.Reads.Learnt κs a z e
      → AnswersWriting a.0 a.1.0 a.1.1.0 a.1.1.1.1.1.0.now a.1.1.1.1.1.1.0.now a.1.1.1.1.1.1.1.0.now z
      a.1.1.1.1.1.1.1.1.0.now e.1.1.1.1.1.1.1.1.0.now
  page_write_answers a z e h =
      answers_writing a.0 a.1.0 a.1.1.0 a.1.1.1.0 a.1.1.1.1.0 a.1.1.1.1.1.0.now a.1.1.1.1.1.1.0.now a.1.1.1.1.1.1.1.0.now h

  pub page_write_used : OfUsedWordsOfBoth {G = Store × ℕ × ℕ × (ℕ × ℕ × List ℕ × List ℕ × List ℕ × List ℕ)} (write-page.Reads.Learnt κs) (λ a. a.1.0) (λ a. a.1.1.0)
      (λ a. (a.0, a.1.0.set, a.1.1.0.set, (a.1.1.1.0, a.1.1.1.1.0, a.1.1.1.1.1.0.now, a.1.1.1.1.1.1.0.now, a.1.1.1.1.1.1.1.0.now, a.1.1.1.1.1.1.1.1.0.now)))
      (λ e. e.1.1.1.1.1.1.1.1.0.now)
  page_write_used a b y z e f h g s u p = writes_used a.0 b.0 a.1.0 b.1.0 a.1.1.0 b.1.1.0 _ _ s u p h g

-- the keyed reader: a store, the sealing key, the tag key, the record, destination
module _ (κs : Lfts 2) where
  pub opens_page : (a : _) (z : _) (e : _) → open-page.Reads.Learnt κs a z e
      → OpensPage a.0 a.1.0 a.1.1.0 a.1.1.1.0.now z a.1.1.1.1.0.now e.1.1.1.1.0.now
  opens_page a z e h = h

  pub page_open_answers : (a : _) (z : _) (e : _) → open-page.Reads.Learnt κs a z e → Bytes a.1.1.1.0.now
      → AnswersReading a.0 a.1.0 a.1.1.0 a.1.1.1.0.now z a.1.1.1.1.0.now e.1.1.1.1.0.now
  page_open_answers a z e h b = answers_reading a.0 a.1.0 a.1.1.0 a.1.1.1.0.now a.1.1.1.1.0.now h b

  pub page_verified : (a : _) (z : _) (e : _) → open-page.Reads.Learnt κs a z e → Bytes a.1.1.1.0.now
      → VerifiesThenOpens a.0 a.1.0 a.1.1.0 a.1.1.1.0.now z a.1.1.1.1.0.now e.1.1.1.1.0.now
  page_verified a z e h b = verifies_then_opens a.0 a.1.0 a.1.1.0 a.1.1.1.0.now a.1.1.1.1.0.now h b

  pub page_open_used : OfUsedWordsOfBoth {G = Store × ℕ × ℕ × (List ℕ × List ℕ)} (open-page.Reads.Learnt κs) (λ a. a.1.0) (λ a. a.1.1.0)
      (λ a. (a.0, a.1.0.set, a.1.1.0.set, (a.1.1.1.0.now, a.1.1.1.1.0.now))) (λ e. e.1.1.1.1.0.now)
  page_open_used a b y z e f h g s u p = page-opens-used a.0 b.0 a.1.0 b.1.0 a.1.1.0 b.1.1.0 _ _ s u p h g

-- functions that write a record and read it
module _ (κs : Lfts 4) where
  pub written_catalogued : (a : _) (z : _) (e : _) → written-and-catalogued.Reads.Learnt κs a z e
      → let text = a.1.1.1.1.1.1.1.0.now in
      CataloguesWritten (write_refusal a.0 a.1.0 a.1.1.0 (length a.1.1.1.1.1.0.now) (length a.1.1.1.1.1.1.0.now) (length text) (length a.1.1.1.1.1.1.1.1.0.now))
      a.1.1.1.0 a.1.1.1.1.0 text z
  written_catalogued a z e h = h.0

  pub written_titled : (a : _) (z : _) (e : _) → written-and-titled.Reads.Learnt κs a z e
      → TitlesWritten (write_refusal a.0 a.1.0 a.1.1.0 (length a.1.1.1.1.1.0.now) (length a.1.1.1.1.1.1.0.now) (length a.1.1.1.1.1.1.1.0.now) (length a.1.1.1.1.1.1.1.1.0.now)) z
  written_titled a z e h = (λ t. eqb-true _ 0 (sym h.0 ∙ t), λ o. h.0 ∙ eq-eqb _ 0 o)

module _ (κs : Lfts 5) where
  pub page_comes_back_in : (a : _) (z : _) (e : _) → written-and-opened.Reads.Learnt κs a z e
      → let sealing = a.1.1.0 in
      let tagging = a.1.1.1.0 in
      let title = a.1.1.1.1.1.1.0.now in
      let start = a.1.1.1.1.1.1.1.0.now in
      let text = a.1.1.1.1.1.1.1.1.0.now in
      let room = a.1.1.1.1.1.1.1.1.1.1.0.now in
      PageComesBackIn a.0 a.1.0 sealing tagging
      (write_refusal a.0 sealing tagging (length title) (length start) (length text) (length a.1.1.1.1.1.1.1.1.1.0.now))
      (read_refusal a.1.0 sealing tagging (written a.0 sealing tagging a.1.1.1.1.0 a.1.1.1.1.1.0 title start text) (length room))
      text z room e.1.1.1.1.1.1.1.1.1.1.0.now
  page_comes_back_in a z e h = (h.0, λ s t. (h.1.1.1.0 s t, h.1.1.1.1 s t))

-- ---- every function named here meets its contract

module _ {M : Type 1} where
  pub substitute_met : substitute.Statement.statement M
  substitute_met = substitute.Met.met

  pub substitute_inverse_met : substitute-inverse.Statement.statement M
  substitute_inverse_met = substitute-inverse.Met.met

  pub fresh_met : fresh.Statement.statement M
  fresh_met = fresh.Met.met

  pub step_met : tape-step.Statement.statement M
  step_met = tape-step.Met.met

  pub tape_run_met : tape-run.Statement.statement M
  tape_run_met = tape-run.Met.met

  pub expand_met : expand.Statement.statement M
  expand_met = expand.Met.met

  pub encipher_by_table_met : encipher-by-table.Statement.statement M
  encipher_by_table_met = encipher-by-table.Met.met

  pub decipher_by_table_met : decipher-by-table.Statement.statement M
  decipher_by_table_met = decipher-by-table.Met.met

  pub encipher_by_matrix_met : encipher-by-matrix.Statement.statement M
  encipher_by_matrix_met = encipher-by-matrix.Met.met

  pub decipher_by_matrix_met : decipher-by-matrix.Statement.statement M
  decipher_by_matrix_met = decipher-by-matrix.Met.met

  pub seal_met : seal.Statement.statement M
  seal_met = seal.Met.met

  pub open_met : cbc-open.Statement.statement M
  open_met = cbc-open.Met.met

  pub run_met : run.Statement.statement M
  run_met = run.Met.met

  pub cbc_there_and_back_met : cbc-there-and-back.Statement.statement M
  cbc_there_and_back_met = cbc-there-and-back.Met.met

  pub ctr_there_and_back_met : ctr-there-and-back.Statement.statement M
  ctr_there_and_back_met = ctr-there-and-back.Met.met

  pub make_met : make.Statement.statement M
  make_met = make.Met.met

  pub verify_met : verify.Statement.statement M
  verify_met = verify.Met.met

  pub tag_made_and_verified_met : tag-made-and-verified.Statement.statement M
  tag_made_and_verified_met = tag-made-and-verified.Met.met

  pub mix_met : mix-word.Statement.statement M
  mix_met = mix-word.Met.met

  pub make_table_met : make-table.Statement.statement M
  make_table_met = make-table.Met.met

  pub product_of_rows_met : product-of-rows.Statement.statement M
  product_of_rows_met = product-of-rows.Met.met

  pub inverse_of_row_met : inverse-of-row.Statement.statement M
  inverse_of_row_met = inverse-of-row.Met.met

  pub judge_of_rows_met : judge-of-rows.Statement.statement M
  judge_of_rows_met = judge-of-rows.Met.met

  pub word_converted_met : word-converted.Statement.statement M
  word_converted_met = word-converted.Met.met

  pub look_up_met : look_up.Statement.statement M
  look_up_met = look_up.Met.met

  pub merged_table_met : merged-table.Statement.statement M
  merged_table_met = merged-table.Met.met

  pub times_met : times.Statement.statement M
  times_met = times.Met.met

  pub fresh_store_met : fresh-store.Statement.statement M
  fresh_store_met = fresh-store.Met.met

  pub load_set_met : Load-set.Statement.statement M
  load_set_met = Load-set.Met.met

  pub take_set_met : take-set.Statement.statement M
  take_set_met = take-set.Met.met

  pub wrap_met : wrap.Statement.statement M
  wrap_met = wrap.Met.met

  pub unwrap_met : unwrap.Statement.statement M
  unwrap_met = unwrap.Met.met

  pub key_wrapped_and_unwrapped_met : key-wrapped-and-unwrapped.Statement.statement M
  key_wrapped_and_unwrapped_met = key-wrapped-and-unwrapped.Met.met

  pub key_unwrapped_and_wrapped_met : key-unwrapped-and-wrapped.Statement.statement M
  key_unwrapped_and_wrapped_met = key-unwrapped-and-wrapped.Met.met

  pub catalogue_met : catalogue-page.Statement.statement M
  catalogue_met = catalogue-page.Met.met

  pub title_met : title-of-page.Statement.statement M
  title_met = title-of-page.Met.met

  pub write_page_met : write-page.Statement.statement M
  write_page_met = write-page.Met.met

  pub open_page_met : open-page.Statement.statement M
  open_page_met = open-page.Met.met

  pub written_and_catalogued_met : written-and-catalogued.Statement.statement M
  written_and_catalogued_met = written-and-catalogued.Met.met

  pub written_and_titled_met : written-and-titled.Statement.statement M
  written_and_titled_met = written-and-titled.Met.met

  pub written_and_opened_met : written-and-opened.Statement.statement M
  written_and_opened_met = written-and-opened.Met.met
