use Rattle.ps_words.proofs.KeptFacts.{told-app, told-local}
use Rattle.ps_words.proofs.arguments.new_command.Goals as goal

pub returns-clause-app : goal.returns-clause-app
returns-clause-app c = told-app _ _ _ _ c.about.ensures c.after_help.ensures c.new.ensures.app

pub returns-clause-local : goal.returns-clause-local
returns-clause-local c = told-local _ _ _ c.about.ensures c.after_help.ensures c.new.ensures.local
