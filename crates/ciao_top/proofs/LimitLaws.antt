-- The text of a run with an answer limit, one event at a time.
use Rattle.std.proofs.Common.{◌≡◌, ℕ, zero, suc, true, false, List, [], ◌∷◌, ◌++◌, refl, ◌∙◌, sym, ap, Option, Some, None, option_map, flat_map, true≢false, arith}
use Rattle.std.specs.Prelude.{◌==◌}
use Rattle.std.proofs.lemmas.Bool.Decides.{nat_tests}
use Rattle.std.proofs.lemmas.List.{append_assoc}
use Rattle.prog_data.specs.declared.programs.Program.{Program}
use Rattle.prog_data.specs.declared.events.Event.{Event}
use Rattle.prog_data.specs.declared.events.Event.TheVariants.{Out, Answer, End, Broken}
use Rattle.prog_data.specs.declared.events.Ending.{Ending}
use Rattle.run_report.specs.RunText.{event_text, ending_text, ending_status}
use Rattle.ciao_top.specs.Limits.{answers_behind, up_to_answer, limit_line, told_text, told_status, LimitedText, limited_status}
use Rattle.ciao_top.specs.InnerAnswers.{count_behind, limit_behind, is_reached}

-- a number above 0
not_zero : (n : ℕ) → (suc n == 0) ≡ false
not_zero n = grind (arith, nat_tests)

-- one answer less, or as many
counted : (event : Event) (n : ℕ) → answers_behind event n ≡ count_behind event (suc n)
counted (Out text) n = refl
counted (Answer query) n = omega arith
counted (End e) n = refl
counted (Broken c) n = refl

-- with one event more before it
told_more : (program : Program) (event : Event) (told : Option (List Event)) (events : List Event) (e : Ending)
    → told_text program (option_map (λ es. event ∷ es) told) (event ∷ events) e ≡ event_text program event ++ told_text program told events e
told_more program event None events e = append_assoc (event_text program event) (flat_map (event_text program) events) (ending_text program e)
told_more program event (Some told) events e = append_assoc (event_text program event) (flat_map (event_text program) told) limit_line

status_more : (event : Event) (told : Option (List Event)) (e : Ending) → told_status (option_map (λ es. event ∷ es) told) e ≡ told_status told e
status_more event None e = refl
status_more event (Some told) e = refl

-- where an answer may still be told

pub text_step : (program : Program) (limit : Option ℕ) (event : Event) (events : List Event) (e : Ending) → is_reached limit ≡ false
    → LimitedText program limit (event ∷ events) e ≡ event_text program event ++ LimitedText program (limit_behind event limit) events e
text_step program None event events e more = told_more program event None events e
text_step program (Some zero) event events e more = absurd (true≢false more)
text_step program (Some (suc n)) event events e more =
    told_more program event (up_to_answer (answers_behind event n) events) events e
    ∙ ap (λ k. event_text program event ++ told_text program (up_to_answer k events) events e) (counted event n)

pub status_step : (limit : Option ℕ) (event : Event) (events : List Event) (e : Ending) → is_reached limit ≡ false → limited_status limit (event ∷ events) e ≡ limited_status (limit_behind event limit) events e
status_step None event events e more = refl
status_step (Some zero) event events e more = absurd (true≢false more)
status_step (Some (suc n)) event events e more =
    status_more event (up_to_answer (answers_behind event n) events) e ∙ ap (λ k. told_status (up_to_answer k events) e) (counted event n)

pub text_end : (program : Program) (limit : Option ℕ) (e : Ending) → is_reached limit ≡ false → LimitedText program limit [] e ≡ ending_text program e
text_end program None e more = refl
text_end program (Some zero) e more = absurd (true≢false more)
text_end program (Some (suc n)) e more = refl

pub status_end : (limit : Option ℕ) (e : Ending) → is_reached limit ≡ false → limited_status limit [] e ≡ ending_status e
status_end None e more = refl
status_end (Some zero) e more = absurd (true≢false more)
status_end (Some (suc n)) e more = refl

-- where none may be told any more

pub text_reached : (program : Program) (limit : Option ℕ) (events : List Event) (e : Ending) → is_reached limit ≡ true → LimitedText program limit events e ≡ limit_line
text_reached program None events e over = absurd (true≢false (sym over))
text_reached program (Some zero) events e over = refl
text_reached program (Some (suc n)) events e over = absurd (true≢false (sym over ∙ not_zero n))

pub status_reached : (limit : Option ℕ) (events : List Event) (e : Ending) → is_reached limit ≡ true → limited_status limit events e ≡ 0
status_reached None events e over = absurd (true≢false (sym over))
status_reached (Some zero) events e over = refl
status_reached (Some (suc n)) events e over = absurd (true≢false (sym over ∙ not_zero n))
