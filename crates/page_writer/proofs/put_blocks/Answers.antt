-- Sealed at the end of the buffer, then moved apart.
-- Assumes nothing.
use mathlib.Core.Path.{◌≡◌, sym, ap, ◌∙◌}
use mathlib.Core.Logic.{inl}
use mathlib.Core.List.{◌++◌}
use Prim.Native.Nat.{ℕ, ◌-◌, ◌*◌, ◌/◌, ◌%◌, ◌≤◌}
use native.Mathlib.Omega.{arith}
use lib.ListN.{length, take, drop, length-drop}
use Rattle.labyrinth.specs.Keys.{E}
use Rattle.modes.specs.Cbc.{cbc_seal}
use Rattle.labyrinth.proofs.Refusals.{under_loaded}
use Rattle.sets.specs.Sets.{parts_in}
use Rattle.modes.specs.Refusals.{cbc_refusal}
use Rattle.modes.proofs.Refusals.{cbc_iff, cbc_one}
use Rattle.forms.proofs.Parts.{part_kept}
use Rattle.keyed_pages.specs.Keyed.{seal_under}
use Rattle.pages.specs.Pages.{sealed_commands}
use Rattle.page_writer.proofs.Puts.{done, apart_done, sealed_end, from_on}
use Rattle.page_writer.proofs.put_blocks.Goals as goal

pub returns : goal.returns
unfolding seal_under
returns c =
    let k = c.seal in
    let g = c.args in
    let d = g.d.now in
    let text = g.body.now in
    let m = length text / 16 in
    let line = E (parts_in g.store g.k.set) g.k.n g.k.words in
    let l : length (take (length d - m) (drop m d)) ≡ length text = ap length (from_on d m) ∙ length-drop m d ∙ omega (arith, c.requires.3, c.requires.4) in
    let z : 16 * g.k.n ≡ 16 = ap (λ (n : ℕ). 16 * n) c.requires.0 in
    let taken : cbc_refusal g.k.n (length g.start.now) (length text) (length (take (length d - m) (drop m d))) ≡ 0 =
    (cbc_iff g.k.n (length g.start.now) (length text) _).1 (inl c.requires.0, c.requires.2 ∙ sym z, ap (λ (n : ℕ). length text % n) z ∙ c.requires.3, l) in
    let y : k.new.dst ≡ cbc_seal line 16 g.start.now text =
    done (cbc_seal line (16 * g.k.n) g.start.now text) _ k.ensures.number (under_loaded g.k.n _ _ (cbc_one g.k.n _ _ _) c.requires.1 ∙ taken) k.ensures.run
    ∙ ap (λ (n : ℕ). cbc_seal line n g.start.now text) z in
    let ly : length k.new.dst ≡ length d - m = k.auto.dst ∙ ap length (from_on d m) ∙ length-drop m d in
    let h : m ≤ length d = omega (arith, c.requires.4) in
    let e = c.apart.ensures in
    apart_done (take m d ++ (k.new.dst ++ drop (length d - m) (drop m d))) m (part_kept d k.new.dst m (length d) h (omega arith) ly ∙ c.requires.4) e.number e.blocks
    ∙ ap (sealed_commands m) (sealed_end d k.new.dst m h ∙ y)
