-- The lines of events.
use Rattle.std.specs.Prelude.{ℕ, List, ◌++◌, codes, decimal}
use Rattle.script_text.specs.Digits.{hex}
use Rattle.script_text.specs.declared.script.Event.{Event}
use Rattle.script_text.specs.declared.script.Event.TheVariants as event

-- the line of an event, without its line feed
abbrev pub event_spelling : Event → List ℕ
event_spelling (event.Register image) = codes "register " ++ decimal image
event_spelling (event.Deregister base) = codes "deregister " ++ hex base
event_spelling (event.Replace image) = codes "replace " ++ decimal image
event_spelling (event.Load image) = codes "load " ++ decimal image
event_spelling (event.Unload base) = codes "unload " ++ hex base
event_spelling (event.Find pc) = codes "find " ++ hex pc
event_spelling (event.Unwind snapshot) = codes "unwind " ++ decimal snapshot
