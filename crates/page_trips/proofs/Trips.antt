-- What the keyed reader makes, with store t, of a record that was just written with store s.
-- Assumes nothing.
use mathlib.Core.Path.{◌≡◌, sym, ap, ◌∙◌}
use mathlib.Core.List.{List}
use Prim.Native.Nat.{ℕ, ◌^◌, ◌<◌}
use lib.Dec.{eqb}
use lib.ListN.{length}
use Rattle.forms.specs.Refusals.{unless, outcome, first_of}
use Rattle.forms.proofs.Bytes.{Bytes, Small}
use Rattle.forms.proofs.Refusals.{refused_keeps}
use Rattle.forms.proofs.Twice.{first_refused, first_passed}
use Rattle.labyrinth.specs.declared.WorkingKey.{WorkingKey}
use Rattle.sets.specs.declared.Store.{Store}
use Rattle.publishers.specs.Pages.{SameSet}
use Rattle.publishers.proofs.Pages.{same_parts}
use Rattle.keyed_pages.specs.Keyed.{written, opened}
use Rattle.keyed_pages.specs.Refusals.{write_refusal, read_refusal}
use Rattle.keyed_pages.proofs.Refusals.{Keys_taken, Write_taken}
use Rattle.keyed_pages.proofs.Trips.{written_number, written_opened}
use Rattle.page_listings.proofs.Listings.{mid_holds, taken, mid_written}

module _ (s : Store) (sealing tagging : WorkingKey) (number day : ℕ) (title start text before : List ℕ) {r : ℕ} {m : List ℕ}
    (e : r ≡ write_refusal s sealing tagging (length title) (length start) (length text) (length before))
    (w : m ≡ outcome r (written s sealing tagging number day title start text) before) where
  abbrev refusal : ℕ
  refusal = write_refusal s sealing tagging (length title) (length start) (length text) (length before)

  kept : m ≡ outcome refusal (written s sealing tagging number day title start text) before
  kept = mid_holds s sealing tagging number day title start text before e w

  module _ (t : Store) (room : List ℕ) where
    -- what both calls come to, where the last that was made answers q and the destination then holds d
    abbrev pub Read : ℕ → List ℕ → Type 0
    Read q d =
        (q ≡ first_of refusal (read_refusal t sealing tagging (written s sealing tagging number day title start text) (length room)))
        × ((m ≡ outcome refusal (written s sealing tagging number day title start text) before)
        × ((d ≡ outcome q (opened t sealing (written s sealing tagging number day title start text)) room)
        × ((SameSet sealing.set s t → SameSet tagging.set s t → q ≡ first_of refusal (unless (eqb (length room) (length text)) 5 0))
        × (SameSet sealing.set s t → SameSet tagging.set s t → d ≡ outcome q text room))))

    pub read_not : (r ≡ 0 → ⊥) → Read r room
    read_not h =
        let g : refusal ≡ 0 → ⊥ = λ z. h (e ∙ z) in
        (e ∙ first_refused refusal _ g, (kept, (refused_keeps r _ room h, (λ a b. e ∙ first_refused refusal _ g, λ a b. refused_keeps r text room h))))

    module _ (small : (number < 2 ^ 32) × (day < 2 ^ 32)) (z : r ≡ 0) (words : Small sealing.words) (hs : Bytes start) (ht : Bytes text) {q : ℕ} {d : List ℕ}
        (f : q ≡ read_refusal t sealing tagging m (length room)) (v : d ≡ outcome q (opened t sealing m) room) where
      abbrev whole : List ℕ
      whole = written s sealing tagging number day title start text

      m_whole : m ≡ whole
      m_whole = mid_written s sealing tagging number day title start text before e w small z

      passed : Write_taken s sealing tagging (length title) (length start) (length text) (length before)
      passed = taken s sealing tagging number day title start text before e w small z

      q_number : q ≡ read_refusal t sealing tagging whole (length room)
      q_number = f ∙ ap (λ (x : List ℕ). read_refusal t sealing tagging x (length room)) m_whole

      d_body : d ≡ outcome q (opened t sealing whole) room
      d_body = v ∙ ap (λ (x : List ℕ). outcome q (opened t sealing x) room) m_whole

      -- the keys pass with the other store too
      there : SameSet sealing.set s t → SameSet tagging.set s t → Keys_taken t sealing tagging
      there a b =
          let k = passed.keys in
          record { sealing_one = k.sealing_one; sealing_loaded = a.there; tagging_one = k.tagging_one; tagging_loaded = b.there }

      pub read_then : Read q d
      read_then = (
        q_number ∙ first_passed refusal _ (sym e ∙ z),
        (
          kept,
          (
            d_body,
            (
              λ a b.
                  q_number ∙ written_number s sealing tagging number day title start text passed small t (there a b) (same_parts b) (length room)
                  ∙ first_passed refusal _ (sym e ∙ z),
              λ a b.
                  d_body
                  ∙ ap (λ (x : List ℕ). outcome q x room) (written_opened s sealing tagging number day title start text passed small t (same_parts a) words hs ht),
            ),
          ),
        ),
      )
