use Rattle.std.proofs.Common.{refl, inl, string_bytes}
use Rattle.agent_plans.specs.declared.plan.Task.TheVariants as tasks
use Rattle.ima_agent.specs.Showing.{version_text}
use Rattle.ima_agent.proofs.OutcomeLaws.{outcome_sent, text_sent}
use Rattle.ima_agent.proofs.program.perform.Goals as goal

pub returns-in-Registers : goal.returns-in-Registers
returns-in-Registers g c =
    rw c.in-Registers.is
    (outcome_sent (g.F.Files.inputs c.args.files.now) tasks.Registers c.args.form _ _ c.shown_registers.result _ _ _ c.shown_registers.ensures.shown
    c.shown_registers.ensures.kept c.shown_registers.ensures.fault c.send_output.ensures)

pub returns-in-Answer : goal.returns-in-Answer
returns-in-Answer g c = rw c.in-Answer.is c.send_answer.ensures

pub returns-in-Measure : goal.returns-in-Measure
returns-in-Measure g c =
    rw c.in-Measure.is
    (outcome_sent (g.F.Files.inputs c.args.files.now) (tasks.Measure c.in-Measure.request) c.args.form _ _ c.measure_for.result _ _ _
    c.measure_for.ensures.shown c.measure_for.ensures.kept c.measure_for.ensures.fault c.send_output-in-Measure.ensures)

pub returns-in-Events : goal.returns-in-Events
returns-in-Events g c = rw c.in-Events.is c.events_for.ensures

pub returns-in-Boot : goal.returns-in-Boot
returns-in-Boot g c =
    rw c.in-Boot.is
    (outcome_sent (g.F.Files.inputs c.args.files.now) (tasks.Boot c.in-Boot.log c.in-Boot.confirmed_by c.in-Boot.before) c.args.form _ _ c.boot_for.result _ _ _
    c.boot_for.ensures.shown c.boot_for.ensures.kept c.boot_for.ensures.fault c.send_output-in-Boot.ensures)

pub returns-in-Convert : goal.returns-in-Convert
returns-in-Convert g c =
    rw c.in-Convert.is
    (outcome_sent (g.F.Files.inputs c.args.files.now) (tasks.Convert c.in-Convert.input c.in-Convert.conversion) c.args.form _ _ c.converted_for.result
    _ _ _ c.converted_for.ensures.shown c.converted_for.ensures.kept c.converted_for.ensures.fault c.send_output-in-Convert.ensures)

pub returns-in-Entries : goal.returns-in-Entries
returns-in-Entries g c = rw c.in-Entries.is c.entries_for.ensures

pub returns-in-Help : goal.returns-in-Help
returns-in-Help g c =
    rw c.in-Help.is (text_sent _ (string_bytes c.in-Help.text) 0 _ _ _ (inl ((refl, refl), refl)) (rw c.as_bytes.ensures.value at c.send_text.ensures))

pub returns-in-Version : goal.returns-in-Version
returns-in-Version g c =
    rw c.in-Version.is (text_sent _ version_text 0 _ _ _ (inl ((refl, refl), refl)) (rw c.version_text.ensures at c.send_text-in-Version.ensures))
