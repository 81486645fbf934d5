-- The writer's refusal, or what the keyed reader makes of what was written.
-- Assumes nothing.
use native.Mathlib.Omega.{arith}
use Rattle.forms.proofs.Bytes.{Bytes, Small}
use Rattle.publishers.proofs.Words.{words_small}
use Rattle.page_trips.proofs.Trips.{read_not, read_then}
use Rattle.page_trips.proofs.written_and_opened.Goals as goal

pub returns-then-first-ne0 : goal.returns-then-first-ne0
returns-then-first-ne0 c =
    let a = c.args in
    let one = c.write-first.ensures in
    let both = read_not a.writing a.sealing a.tagging a.number a.day a.title.now a.start.now a.body.now a.mid.now one.number one.page a.reading a.dst.now c.if-first-ne0.true in record { number = both.0; page = both.1.0; body = both.1.1.0; right = both.1.1.1.0; back = both.1.1.1.1 }

pub returns : goal.returns
returns c =
    let a = c.args in
    let one = c.write-first.ensures in
    let two = c.open.ensures in
    let words : Small a.sealing.words = words_small a.sealing.words c.well_formed.1.1.0.1.1.1.1.0.0 c.well_formed.1.1.0.1.1.1.1.0.1.1 in
    let hs : Bytes a.start.now = λ i. omega (arith, c.shared_slice_known-2-1.given i) in
    let ht : Bytes a.body.now = λ i. omega (arith, c.shared_slice_known-3-1.given i) in
    let both = read_then a.writing a.sealing a.tagging a.number a.day a.title.now a.start.now a.body.now a.mid.now one.number one.page a.reading a.dst.now (c.well_formed.1.1.1.1.0.1, c.well_formed.1.1.1.1.1.0.1)
    c.if-first-ne0.false words hs ht two.number two.body in record { number = both.0; page = both.1.0; body = both.1.1.0; right = both.1.1.1.0; back = both.1.1.1.1 }
