use Rattle.machine_desc.specs.Rules.{is_text, text_parts}
use Rattle.machine_desc.proofs.AllTexts.{all_of_each}
use Rattle.machine_desc.proofs.machine.Machine.has_lawful_texts.Goals as goal

pub returns : goal.returns
returns c = rw (all_of_each is_text (λ texts. texts) (text_parts c.args.self.now)) (simp all_of_each (cc))
