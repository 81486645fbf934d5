-- Four commands one after another.
-- Assumes nothing.
use mathlib.Core.Path.{◌≡◌, ap, ap₂, ◌∙◌}
use mathlib.Core.List.{◌++◌}
use Prim.Native.Nat.{suc}
use lib.ListN.{length}
use Rattle.pages.specs.Pages.{command, four_bytes}
use Rattle.pages.proofs.Commands.{length_four_bytes}
use Rattle.page_heads.proofs.Puts.{number_bytes, four_parts}
use Rattle.page_heads.proofs.put_head.Goals as goal

pub returns-clause-bytes : goal.returns-clause-bytes
returns-clause-bytes c =
    let g = c.args in
    let e1 : c.lay_command.new.d ≡ command 0x10 (four_bytes g.number) = c.lay_command.ensures ∙ ap (command 0x10) (c.to_le_bytes.ensures ∙ number_bytes g.number) in
    let e2 : c.lay_command-2.new.d ≡ command 0x11 (four_bytes g.day) = c.lay_command-2.ensures ∙ ap (command 0x11) (c.to_le_bytes-2.ensures ∙ number_bytes g.day) in
    let e3 = c.lay_command-3.ensures in
    let e4 = c.lay_command-4.ensures in
    four_parts g.d.now c.lay_command.new.d c.lay_command-2.new.d c.lay_command-3.new.d c.lay_command-4.new.d c.if-d-ne60.false
    (ap length e1 ∙ ap suc (length_four_bytes g.number)) (ap length e2 ∙ ap suc (length_four_bytes g.day)) (ap length e3 ∙ ap suc c.if-title-ne32.false) (ap length e4 ∙ ap suc c.if-start-ne16.false)
    ∙ ap₂ ◌++◌ e1 (ap₂ ◌++◌ e2 (ap₂ ◌++◌ e3 e4))
