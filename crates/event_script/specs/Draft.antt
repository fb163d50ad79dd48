-- A script as far as its lines have come: which lines may come, and what each adds.
use Rattle.std.specs.Prelude.{ℕ, ◌+◌, ◌-◌, List, [], ◌∷◌, ◌++◌, Bool, true, false}
use Rattle.std.specs.Prelude.{Result, Ok, Err, replicate, nat_le}
use Rattle.reg_model.specs.SpanData.{SpanData}
use Rattle.frame_parse.specs.Sections.{SectionData}
use Rattle.frame_parse.specs.Reading.{section_of}
use Rattle.frame_parse.specs.declared.fault.FrameFault.{FrameFault}
use Rattle.script_text.specs.declared.limits.TheConstants.{REPLACE_VERSION}
use Rattle.script_text.specs.ScriptData.{ScriptData, ImageData, SnapshotData}
use Rattle.script_text.specs.declared.script.Event.{Event}
use Rattle.script_text.specs.declared.script.Event.TheVariants as event
use Rattle.event_script.specs.declared.reader.kinds.Stage.{Stage}
use Rattle.event_script.specs.declared.reader.kinds.Stage.TheVariants as stage
use Rattle.script_text.specs.declared.kind.Kind.{Kind}
use Rattle.script_text.specs.declared.kind.Kind.TheVariants as kind
use Rattle.script_text.specs.declared.statement.Statement.{Statement}
use Rattle.script_text.specs.declared.statement.Statement.TheVariants as statement
use Rattle.event_script.specs.declared.reader.totals.Totals.{Totals}

-- What the lines so far make known: which lines may come, what stands of the script, the snapshot
-- whose memory goes on, the threads that are over of the round that goes on, the events of the
-- thread that goes on, and what all events so far come to.
pub record DraftData : Type 0 where
  pub stage : Stage
  pub script : ScriptData
  pub snapshot : SnapshotData
  pub threads : List (List Event)
  pub events : List Event
  pub totals : Totals

abbrev pub no_script : ScriptData
no_script = record {
  version = 0;
  nodes = 0;
  loads = 0;
  images = [];
  sections = [];
  fixed = [];
  snapshots = [];
  rounds = [];
}

-- where no snapshot goes on
abbrev pub no_snapshot : SnapshotData
no_snapshot = record { regs = record { columns = replicate 17 0 }; memory = [] }

-- what no events come to
abbrev pub no_totals : Totals
no_totals = record { unwinds = 0 }

-- before the first line
abbrev pub nothing_known : DraftData
nothing_known = record {
  stage = stage.Version;
  script = no_script;
  snapshot = no_snapshot;
  threads = [];
  events = [];
  totals = no_totals;
}

-- ---- which lines may come

-- which lines may come next in a script of the version
abbrev pub may_come : ℕ → Stage → Kind → Bool
may_come version stage.Version kind.Version = true
may_come version stage.Nodes kind.Nodes = true
may_come version stage.Loads kind.Loads = true
may_come version stage.Images kind.Image = true
may_come version stage.Images kind.Fixed = true
may_come version stage.Images kind.Snapshot = true
may_come version stage.Images kind.Round = true
may_come version stage.Images kind.End = true
may_come version stage.Fixed kind.Fixed = true
may_come version stage.Fixed kind.Snapshot = true
may_come version stage.Fixed kind.Round = true
may_come version stage.Fixed kind.End = true
may_come version stage.Snapshots kind.Snapshot = true
may_come version stage.Snapshots kind.Memory = true
may_come version stage.Snapshots kind.Round = true
may_come version stage.Snapshots kind.End = true
may_come version stage.Round kind.Round = true
may_come version stage.Round kind.Thread = true
may_come version stage.Round kind.End = true
may_come version stage.Thread kind.Round = true
may_come version stage.Thread kind.Thread = true
may_come version stage.Thread kind.End = true
may_come version stage.Thread kind.Register = true
may_come version stage.Thread kind.Deregister = true
may_come version stage.Thread kind.Replace = nat_le REPLACE_VERSION version
may_come version stage.Thread kind.Load = true
may_come version stage.Thread kind.Unload = true
may_come version stage.Thread kind.Find = true
may_come version stage.Thread kind.Unwind = true
may_come version _ _ = false

-- the `end` line was read
abbrev pub is_ended : Stage → Bool
is_ended stage.Ended = true
is_ended _ = false

-- ---- what each adds

-- the snapshots, with the one that goes on
abbrev pub snapshots_at : Stage → List SnapshotData → SnapshotData → List SnapshotData
snapshots_at stage.Snapshots snapshots snapshot = snapshots ++ snapshot ∷ []
snapshots_at _ snapshots snapshot = snapshots

-- the threads of the round, with the one that goes on
abbrev pub threads_at : Stage → List (List Event) → List Event → List (List Event)
threads_at stage.Thread threads events = threads ++ events ∷ []
threads_at _ threads events = threads

-- the rounds, with the one that goes on
abbrev pub rounds_at : Stage → List (List (List Event)) → List (List Event) → List Event
    → List (List (List Event))
rounds_at stage.Round rounds threads events = rounds ++ threads ∷ []
rounds_at stage.Thread rounds threads events = rounds ++ (threads ++ events ∷ []) ∷ []
rounds_at _ rounds threads events = rounds

-- all snapshots so far
abbrev pub snapshots_so_far : DraftData → List SnapshotData
snapshots_so_far known = snapshots_at known.stage known.script.snapshots known.snapshot

-- the threads so far of the round that goes on, and all rounds so far
abbrev pub threads_so_far : DraftData → List (List Event)
threads_so_far known = threads_at known.stage known.threads known.events

abbrev pub rounds_so_far : DraftData → List (List (List Event))
rounds_so_far known = rounds_at known.stage known.script.rounds known.threads known.events

-- what events come to, with one more
abbrev pub with_event : Totals → Event → Totals
with_event totals (event.Unwind snapshot) = record { unwinds = totals.unwinds + 1 }
with_event totals _ = totals

-- the span of an image
abbrev pub span_from : ImageData → SpanData
span_from image = record { first = image.base; last = image.base + image.size - 1 }

-- the section that the bytes at an address are; where they are none, it has no FDEs
abbrev pub contents_or_none : ℕ → List ℕ → Result SectionData FrameFault → SectionData
contents_or_none address bytes (Ok contents) = contents
contents_or_none address bytes (Err fault) = record { address = address; bytes = bytes; fdes = [] }

abbrev pub with_image : DraftData → ImageData → SectionData → DraftData
with_image known image section =
    record known {
      script = record known.script {
        images = known.script.images ++ span_from image ∷ [];
        sections = known.script.sections ++ section ∷ [];
      };
    }

-- the snapshot that goes on is over
abbrev pub after_snapshot : DraftData → DraftData
after_snapshot known = record known {
  script = record known.script { snapshots = snapshots_so_far known };
  snapshot = no_snapshot;
}

-- the snapshot or the round that goes on is over
abbrev pub after_round : DraftData → Stage → DraftData
after_round known next = record {
  stage = next;
  script = record known.script {
    snapshots = snapshots_so_far known;
    rounds = rounds_so_far known;
  };
  snapshot = no_snapshot;
  threads = [];
  events = [];
  totals = known.totals;
}

-- what is known after one more line that says so
abbrev pub with_statement : DraftData → Statement → DraftData
with_statement known (statement.Version version) =
    record known { stage = stage.Nodes; script = record known.script { version = version } }
with_statement known (statement.Nodes nodes) =
    record known { stage = stage.Loads; script = record known.script { nodes = nodes } }
with_statement known (statement.Loads loads) =
    record known { stage = stage.Images; script = record known.script { loads = loads } }
with_statement known (statement.Image image) =
    with_image known image
    (contents_or_none image.section image.bytes (section_of image.section image.bytes))
with_statement known (statement.Fixed image) = record known {
  stage = stage.Fixed;
  script = record known.script { fixed = known.script.fixed ++ image ∷ [] };
}
with_statement known (statement.Snapshot snapshot) =
    record (after_snapshot known) {
      stage = stage.Snapshots;
      snapshot = record { regs = snapshot.regs; memory = [] };
    }
with_statement known (statement.Memory region) =
    record known {
      snapshot = record known.snapshot { memory = known.snapshot.memory ++ region ∷ [] };
    }
with_statement known statement.Round = after_round known stage.Round
with_statement known statement.Thread =
    record known { stage = stage.Thread; threads = threads_so_far known; events = [] }
with_statement known (statement.Event event) = record known {
  events = known.events ++ event ∷ [];
  totals = with_event known.totals event;
}
with_statement known statement.End = after_round known stage.Ended
