use Rattle.std.proofs.Common.{◌≡◌, drop, ap, sym, ◌∙◌}
use Rattle.cmd_text.specs.declared.command.Command.TheVariants.{Clip, Tex}
use Rattle.cmd_text.specs.Commands.{command_of, numbers, surface_of, number_at, text_at, plane_at, offsets_at, micro_at, scales_at}
use Rattle.cmd_text.proofs.Drops.{drop_again}
use Rattle.cmd_text.proofs.build.command.Goals as goal

pub returns-in_ok-numbers-in-Clip-clause-value : goal.returns-in_ok-numbers-in-Clip-clause-value
returns-in_ok-numbers-in-Clip-clause-value c =
    let words = c.args.words in
    let rest : c.part-part.new.self ≡ drop 1 words = c.part-part.ensures.rest in
    let rest-2 : c.plane-plane.new.self ≡ drop 10 words = c.plane-plane.ensures.rest ∙ ap (drop 9) rest ∙ drop_again 9 1 words in
    let plane = c.plane-plane.ensures.value ∙ ap (plane_at 0) rest in
    let nodes = c.in_ok-numbers-in-Clip.ensures.value ∙ ap numbers rest-2 in
    (λ i. Clip (c.part-part.ensures.value i) (plane i) (nodes i)) ∙ ap (λ verb. command_of verb words) (sym c.in-Clip.is)

pub returns-in_ok-name-in-Tex-clause-value : goal.returns-in_ok-name-in-Tex-clause-value
returns-in_ok-name-in-Tex-clause-value c =
    let words = c.args.words in
    let rest : c.number-node-in-Tex.new.self ≡ drop 1 words = c.number-node-in-Tex.ensures.rest in
    let rest-2 : c.number-face.new.self ≡ drop 2 words = c.number-face.ensures.rest ∙ ap (drop 1) rest ∙ drop_again 1 1 words in
    let rest-3 : c.text-in-Tex.new.self ≡ drop 3 words = c.text-in-Tex.ensures.rest ∙ ap (drop 1) rest-2 ∙ drop_again 1 2 words in
    let rest-4 : c.offsets-off.new.self ≡ drop 5 words = c.offsets-off.ensures.rest ∙ ap (drop 2) rest-3 ∙ drop_again 2 3 words in
    let rest-5 : c.micro-rotation.new.self ≡ drop 6 words = c.micro-rotation.ensures.rest ∙ ap (drop 1) rest-4 ∙ drop_again 1 5 words in
    let rest-6 : c.scales-scale.new.self ≡ drop 8 words = c.scales-scale.ensures.rest ∙ ap (drop 2) rest-5 ∙ drop_again 2 6 words in
    let face = c.number-face.ensures.value ∙ ap (number_at 0) rest in
    let name = c.in_ok-name-in-Tex.ensures.value ∙ ap (text_at 0) rest-2 in
    let off = c.offsets-off.ensures.value ∙ ap (offsets_at 0) rest-3 in
    let rotation = c.micro-rotation.ensures.value ∙ ap (micro_at 0) rest-4 in
    let scale = c.scales-scale.ensures.value ∙ ap (scales_at 0) rest-5 in
    let surface = c.surface.ensures.value ∙ ap surface_of rest-6 in
    (λ i. Tex (c.number-node-in-Tex.ensures.value i) (face i) (name i) (off i) (rotation i) (scale i) (surface i)) ∙ ap (λ verb. command_of verb words) (sym c.in-Tex.is)
