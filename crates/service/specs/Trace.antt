-- The trace of a service: its steps, each with its reply, in the order in which they were made.
use Rattle.std.specs.Prelude.{ℕ, ◌==◌, ◌&&◌, Bool, true, false, List, map, filter, count_by}
use Rattle.page_entry.specs.declared.refusal.Refusal.TheVariants as refusals
use Rattle.machine.specs.declared.act.Act.{Act}
use Rattle.machine.specs.declared.act.Act.TheVariants as acts
use Rattle.machine.specs.declared.act.Reply.{Reply}
use Rattle.machine.specs.declared.act.Reply.TheVariants as replies
use Rattle.machine.specs.declared.act.Step.{Step}
use Rattle.service.specs.declared.entry.Entry.{Entry}

-- whether an act may change what another processor sees: a load, a fill and an eviction don't
abbrev pub may_be_seen : Act → Bool
may_be_seen (acts.Load va count) = false
may_be_seen (acts.Fill page) = false
may_be_seen (acts.Evict slot) = false
may_be_seen act = true

-- whether a reply reports that something was done, or that a device call failed
abbrev pub has_done : Reply → Bool
has_done (replies.Refused refusals.Device) = true
has_done (replies.Refused why) = false
has_done replies.Nothing = false
has_done reply = true

-- whether an act with its reply is progress, for which other processors may wait
abbrev pub is_progress : Act → Reply → Bool
is_progress act reply = may_be_seen act && has_done reply

-- the number of entries of a trace that are progress
abbrev pub progress_of : List Entry → ℕ
progress_of trace = count_by (λ e. is_progress e.step.act e.reply) trace

abbrev pub steps_of : List Entry → List Step
steps_of trace = map (λ e. e.step) trace

abbrev pub replies_of : List Entry → List Reply
replies_of trace = map (λ e. e.reply) trace

-- the acts of one processor, each with its reply, in order
abbrev pub of_processor : ℕ → List Entry → List (Act × Reply)
of_processor p trace = map (λ e. (e.step.act, e.reply)) (filter (λ e. e.step.p == p) trace)
