-- What each step makes of its caller's log: loads, the loader's lock, and callers and notes that
-- come and go.
use Rattle.std.specs.Prelude.{◌≡◌, ℕ, ◌+◌, ◌-◌, ◌*◌, Bool, List, [], ◌∷◌, ◌++◌, length, Some}
use Rattle.std.specs.Prelude.{None, nat_lt, false, true, if◌then◌else◌}
use Rattle.reg_model.specs.declared.answer.Update.{Update}
use Rattle.word_rule.specs.declared.log.Terms.{Terms}
use Rattle.word_rule.specs.declared.log.Role.{Role}
use Rattle.word_rule.specs.declared.log.Role.TheVariants as role
use Rattle.word_rule.specs.declared.log.Budget.{Budget}
use Rattle.word_rule.specs.declared.log.LoaderHolding.{LoaderHolding}
use Rattle.word_rule.specs.declared.log.LoadEvent.{LoadEvent}
use Rattle.word_rule.specs.declared.log.ReceiptList.{ReceiptList}
use Rattle.word_rule.specs.declared.log.Receipts.{Receipts}
use Rattle.word_rule.specs.declared.log.CallerTrace.{CallerTrace}
use Rattle.word_rule.specs.declared.log.Lineage.{Lineage}
use Rattle.word_rule.specs.declared.log.Log.{Log}
use Rattle.word_rule.specs.Shares.{part_of, whole_lineage, after_fork, forked_lineage}
use Rattle.word_rule.specs.Shares.{joined_lineage}
use Rattle.word_rule.specs.Places.{ALLOWANCE, CREDIT, CALL_CREDIT, copy_words}

-- whether nobody waits for a log: for a reader's, and for what was joined or learnt into another
abbrev pub is_nameless : Role → Bool
is_nameless role.Caller = false
is_nameless role.Note = false
is_nameless role.Reader = true
is_nameless role.Spent = true

-- whether a log was joined or learnt into another
abbrev pub is_gone : Role → Bool
is_gone role.Caller = false
is_gone role.Note = false
is_gone role.Reader = false
is_gone role.Spent = true

-- 1 for a caller, and 0 for a note, a reader and what was joined away
abbrev pub weight : Role → ℕ
weight role.Caller = 1
weight role.Note = 0
weight role.Reader = 0
weight role.Spent = 0

-- how often the caller changed anything itself
abbrev pub turns : CallerTrace → ℕ
turns t = t.writes + t.meetings

-- a load, or a refused exchange, with what its caller has at that moment
abbrev pub load_of : Log → ℕ → ℕ → LoadEvent
load_of v word found = record {
  word = word;
  found = found;
  held = v.holdings.held;
  out = v.holdings.out;
  stores = v.trace.stores;
  receipts = length v.receipts.own;
  turns = turns v.trace;
}

-- a word was loaded, or an exchange refused
abbrev pub after_load : ℕ → ℕ → Log → Log
after_load word found v =
    record v { trace = record v.trace { loads = v.trace.loads ++ load_of v word found ∷ [] } }

-- one more step that changed a word
abbrev pub after_write : Log → Log
after_write v = record v { trace = record v.trace { writes = v.trace.writes + 1 } }

-- the loader's lock, just taken at a version, after so many publications, with the words of both
-- copies
pub record IsTaken (t : Terms) (version : ℕ) (h : LoaderHolding) : Type 0 where
  pub taken : h.version ≡ version
  pub active : length h.active ≡ copy_words t
  pub spare : length h.spare ≡ copy_words t
  pub clean : h.stored ≡ false

abbrev pub after_loader_lock : LoaderHolding → Log → Log
after_loader_lock h v = record (after_write v) { loader = Some h }

-- one release less
abbrev pub after_spending : Budget → Budget
after_spending b = record b { credit = b.credit - 1 }

-- the loader's lock was let go with the next version
abbrev pub after_loader_release : Log → Log
after_loader_release v = record (after_write v) { loader = None; budget = after_spending v.budget }

-- the loader's lock was let go with the version at which it was taken
abbrev pub after_loader_release_same : Log → Log
after_loader_release_same v = record (after_write v) { loader = None }

-- the longer of two beginnings of the history
abbrev pub longer : List Update → List Update → List Update
longer a b = if nat_lt (length a) (length b) then b else a

-- the shorter of them
abbrev pub shorter : List Update → List Update → List Update
shorter a b = if nat_lt (length a) (length b) then a else b

-- a caller's own receipts
abbrev pub own_list : Receipts → ReceiptList
own_list r = record { since = r.since; list = r.own }

-- a log that has seen so much and done nothing
abbrev pub new_log : Terms → Role → List Update → Budget → Lineage → Log
new_log terms role past budget lineage = record {
  terms = terms;
  role = role;
  past = past;
  budget = budget;
  receipts = record { since = length past; own = []; joined = []; heard = [] };
  trace = record { loads = []; stores = []; writes = 0; meetings = 0 };
  holdings = record { held = []; out = [] };
  loader = None;
  sights = record { nodes = []; copies = None };
  made = 0;
  lineage = lineage;
}

-- what the first caller knows
abbrev pub first_log : Terms → Log
first_log t = new_log t role.Caller [] record {
  allowance = ALLOWANCE;
  credit = CREDIT;
} whole_lineage

-- What a caller that is split off or a note begins with: what its maker has seen, so much to do,
-- and a share.
abbrev pub child_log : Role → Budget → Log → Log
child_log role budget v = new_log v.terms role v.past budget (forked_lineage v.lineage)

-- what one that makes no update may do
abbrev pub no_budget : Budget
no_budget = record { allowance = 0; credit = 0 }

-- the share of one that nobody waits for
abbrev pub no_lineage : Lineage
no_lineage = record { share = 0 }

-- what is left of a log that was joined or learnt into another
abbrev pub spent_log : Log
spent_log =
    new_log record { nodes = 0; loads = 0; payloads = 0; fixed = [] } role.Spent [] no_budget
    no_lineage

-- what a reader begins with that has seen so much
abbrev pub reader_log : Terms → List Update → Log
reader_log t past = new_log t role.Reader past no_budget no_lineage

-- a reader that has seen what its maker has
abbrev pub reader_of : Log → Log
reader_of v = reader_log v.terms v.past

-- The releases that a split gives away with so many of the `left` update calls: those of the calls,
-- and a part of the surplus.
abbrev pub credit_given : ℕ → ℕ → ℕ → ℕ
credit_given credit left give = CALL_CREDIT * give + part_of (credit - CALL_CREDIT * left)

abbrev pub budget_given : ℕ → ℕ → Budget → Budget
budget_given left give b = record { allowance = give; credit = credit_given b.credit left give }

abbrev pub budget_kept : ℕ → ℕ → Budget → Budget
budget_kept left give b =
    record { allowance = b.allowance - give; credit = b.credit - credit_given b.credit left give }

-- a caller or a note came or went
abbrev pub after_meeting : CallerTrace → CallerTrace
after_meeting t = record t { meetings = t.meetings + 1 }

abbrev pub after_split : ℕ → ℕ → Log → Log
after_split left give v =
    record v {
      budget = budget_kept left give v.budget;
      trace = after_meeting v.trace;
      made = v.made + 1;
      lineage = after_fork v.lineage;
    }

abbrev pub split_off : ℕ → ℕ → Log → Log
split_off left give v = child_log role.Caller (budget_given left give v.budget) v

abbrev pub after_note : Log → Log
after_note v = record v { trace = after_meeting v.trace; lineage = after_fork v.lineage }

abbrev pub note_of : Log → Log
note_of v = child_log role.Note no_budget v

-- a note was learnt
abbrev pub after_learn : Log → Log → Log
after_learn v note = record v {
  past = longer v.past note.past;
  receipts = record v.receipts { heard = shorter v.past note.past };
  trace = after_meeting v.trace;
  lineage = joined_lineage v.lineage note.lineage;
}

-- another caller was joined into this one
abbrev pub after_join : Log → Log → Log
after_join v other = record (after_learn v other) {
  budget = record {
    allowance = v.budget.allowance + other.budget.allowance;
    credit = v.budget.credit + other.budget.credit;
  };
  receipts = record v.receipts {
    joined = v.receipts.joined ++ own_list other.receipts ∷ other.receipts.joined;
    heard = shorter v.past other.past;
  };
  made = v.made + other.made;
}
