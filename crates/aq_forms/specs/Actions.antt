-- The code's actions are those of the definition.
use Rattle.aq_rules.specs.Lines.Spellings as spellings
use Rattle.aq_forms.specs.declared.spellings.Action.{Action}
use Rattle.aq_forms.specs.declared.spellings.Action.TheVariants.{Insert, Update, Delete}

abbrev pub action_value : Action → spellings.Action
action_value Insert = spellings.Insert
action_value Update = spellings.Update
action_value Delete = spellings.Delete
