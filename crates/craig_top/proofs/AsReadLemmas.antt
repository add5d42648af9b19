-- What is read as a command: chosen cuts are some.
use Rattle.std.proofs.Common.{length, nat_le, ◌≡◌, List, ℕ, ℤ, pos, [], ◌∷◌, Bool, true, false, cond, Result, Ok, Err, subst, None, Some}
use Rattle.std.specs.Prelude.{codes}
use Rattle.std.specs.Str.{bytes_eq}
use Rattle.craig_script.specs.declared.line.Line.{Line}
use Rattle.craig_script.specs.declared.line.Line.TheVariants as line
use Rattle.craig_script.specs.declared.command.Command.{Command}
use Rattle.craig_script.specs.declared.command.Command.TheVariants.{Nothing, Parts, Add, System, Mark, Cuts, Limit, Format, Solve}
use Rattle.craig_script.specs.declared.cut_word.CutWord.TheVariants as cut
use Rattle.craig_script.specs.declared.refusal.Refusal.{Refusal}
use Rattle.craig_script.specs.declared.refusal.Refusal.TheVariants.{Syntax, Overlong}
use Rattle.craig_script.specs.Lines.{line_limit}
use Rattle.craig_script.specs.Words.{words}
use Rattle.craig_script.specs.NumberWords.{number_of}
use Rattle.craig_script.specs.Reading.{format_named, format_of, limit_of, ◌>>=◌, or_syntax, then_nothing, only_word, literals_to_end, numbers_to_end, add_of, parts_of, system_of, system_named, mark_of, mark_named, cuts_of, pairs_to_end, solve_of, command_of, parsed, is_comment, admitted, read_line}
use Rattle.craig_top.specs.AsRead.{IsAsRead}

-- the command of a reading, where there is one, is as it is read
abbrev AllAsRead : Result Command Refusal → Type 0
AllAsRead (Ok c) = IsAsRead c
AllAsRead (Err e) = Unit {0}

either : (b : Bool) (x y : Result Command Refusal) → AllAsRead x → AllAsRead y → AllAsRead (cond b x y)
either true x y p q = p
either false x y p q = q

-- what goes on so is
made : {A : Type 0} (r : Result A Refusal) (f : A → Result Command Refusal) → ((x : A) → AllAsRead (f x)) → AllAsRead (r >>= f)
made (Ok x) f each = each x
made (Err e) f each = tt

add_read : (ws : List (List ℕ)) → AllAsRead (add_of ws)
add_read [] = tt
add_read (w ∷ ws) = made (or_syntax (number_of w)) (λ part. literals_to_end ws >>= λ lits. Ok (Add part lits)) (λ part. made (literals_to_end ws) (λ lits. Ok (Add part lits)) (λ lits. tt))

parts_read : (ws : List (List ℕ)) → AllAsRead (parts_of ws)
parts_read ws = made (only_word ws) (λ w. or_syntax (number_of w) >>= λ n. Ok (Parts n)) (λ w. made (or_syntax (number_of w)) (λ n. Ok (Parts n)) (λ n. tt))

system_read : (ws : List (List ℕ)) → AllAsRead (system_of ws)
system_read ws = made (only_word ws) (λ w. or_syntax (system_named w) >>= λ s. Ok (System s)) (λ w. made (or_syntax (system_named w)) (λ s. Ok (System s)) (λ s. tt))

mark_read : (ws : List (List ℕ)) → AllAsRead (mark_of ws)
mark_read [] = tt
mark_read (w ∷ ws) =
    made (or_syntax (number_of w)) (λ name. only_word ws >>= λ v. (or_syntax (mark_named v) >>= λ m. Ok (Mark name m)))
    (λ name. made (only_word ws) (λ v. or_syntax (mark_named v) >>= λ m. Ok (Mark name m)) (λ v. made (or_syntax (mark_named v)) (λ m. Ok (Mark name m)) (λ m. tt)))

nothing_read : (ws : List (List ℕ)) (c : Command) → IsAsRead c → AllAsRead (then_nothing ws c)
nothing_read [] c h = h
nothing_read (w ∷ ws) c h = tt

some_read : (o : Result ℕ Refusal) (r : Result (List ℤ) Refusal) → AllAsRead ((o >>= λ n. (r >>= λ ns. Ok (pos n ∷ ns))) >>= λ ns. Ok (Cuts (cut.Chosen ns)))
some_read (Ok n) (Ok ns) = λ e. cc
some_read (Ok n) (Err e) = tt
some_read (Err e) r = tt

cuts_read : (ws : List (List ℕ)) → AllAsRead (cuts_of ws)
cuts_read [] = tt
cuts_read (w ∷ ws) =
    either (bytes_eq w (codes "all")) (then_nothing ws (Cuts cut.All)) (numbers_to_end (w ∷ ws) >>= λ ns. Ok (Cuts (cut.Chosen ns))) (nothing_read ws (Cuts cut.All) tt) (some_read (or_syntax (number_of w)) (numbers_to_end ws))

limit_read : (ws : List (List ℕ)) → AllAsRead (limit_of ws)
limit_read ws =
    made (only_word ws) (λ w. cond (bytes_eq w (codes "none")) (Ok (Limit None)) (or_syntax (number_of w) >>= λ n. Ok (Limit (Some n))))
    (λ w. either (bytes_eq w (codes "none")) (Ok (Limit None)) (or_syntax (number_of w) >>= λ n. Ok (Limit (Some n))) tt (made (or_syntax (number_of w)) (λ n. Ok (Limit (Some n))) (λ n. tt)))

format_read : (ws : List (List ℕ)) → AllAsRead (format_of ws)
format_read ws = made (only_word ws) (λ w. or_syntax (format_named w) >>= λ f. Ok (Format f)) (λ w. made (or_syntax (format_named w)) (λ f. Ok (Format f)) (λ f. tt))

solve_read : (ws : List (List ℕ)) → AllAsRead (solve_of ws)
solve_read ws = made (pairs_to_end ws) (λ pairs. Ok (Solve pairs)) (λ pairs. tt)

command_read : (ws : List (List ℕ)) → AllAsRead (command_of ws)
command_read [] = tt
command_read (w ∷ ws) =
    let solve : Result Command Refusal = cond (bytes_eq w (codes "solve")) (solve_of ws) (Err Syntax) in
    let format : Result Command Refusal = cond (bytes_eq w (codes "format")) (format_of ws) solve in
    let limit : Result Command Refusal = cond (bytes_eq w (codes "limit")) (limit_of ws) format in
    let cuts : Result Command Refusal = cond (bytes_eq w (codes "cuts")) (cuts_of ws) limit in
    let mark : Result Command Refusal = cond (bytes_eq w (codes "mark")) (mark_of ws) cuts in
    let system : Result Command Refusal = cond (bytes_eq w (codes "system")) (system_of ws) mark in
    let parts : Result Command Refusal = cond (bytes_eq w (codes "parts")) (parts_of ws) system in
    let add : Result Command Refusal = cond (bytes_eq w (codes "add")) (add_of ws) parts in
    either (is_comment w) (Ok Nothing) add tt
    (either (bytes_eq w (codes "add")) (add_of ws) parts (add_read ws)
    (either (bytes_eq w (codes "parts")) (parts_of ws) system (parts_read ws)
    (either (bytes_eq w (codes "system")) (system_of ws) mark (system_read ws)
    (either (bytes_eq w (codes "mark")) (mark_of ws) cuts (mark_read ws)
    (either (bytes_eq w (codes "cuts")) (cuts_of ws) limit (cuts_read ws)
    (either (bytes_eq w (codes "limit")) (limit_of ws) format (limit_read ws)
    (either (bytes_eq w (codes "format")) (format_of ws) solve (format_read ws)
    (either (bytes_eq w (codes "solve")) (solve_of ws) (Err Syntax) (solve_read ws) tt))))))))

line_read : (l : Line) → AllAsRead (parsed l)
line_read line.Overlong = tt
line_read (line.Text bytes) = either (nat_le (length bytes) line_limit) (command_of (words bytes)) (Err Overlong) (command_read (words bytes)) tt

admitted_read : (r : Result Command Refusal) (f : Command → Result (Unit {0}) Refusal) → AllAsRead r → AllAsRead (r >>= λ c. (f c >>= λ _. Ok c))
admitted_read (Ok c) f h = after (f c)
  where
    after : (r : Result (Unit {0}) Refusal) → AllAsRead (r >>= λ _. Ok c)
    after (Ok u) = h
    after (Err e) = tt
admitted_read (Err e) f h = tt

pub as_read : (parts : ℕ) (any : Bool) (l : Line) (c : Command) → read_line parts any l ≡ Ok c → IsAsRead c
as_read parts any l c e = subst AllAsRead e (admitted_read (parsed l) (admitted parts any) (line_read l))
