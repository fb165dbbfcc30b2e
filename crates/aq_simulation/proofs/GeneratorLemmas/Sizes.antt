-- How many bytes and lines a load has at most.
use Rattle.std.proofs.Common.{◌≡◌, ℕ, zero, suc, ◌+◌, ◌-◌, ◌*◌, ◌/◌, ◌%◌, ◌^◌, ◌<◌, ◌≤◌, Bool, true, false, cond, List, [], ◌∷◌, ◌++◌, length, take, drop, Some, None, Option, refl, sym, ap, arith, subst, append_assoc, append-nil, length-append, map, filter, count_by}
use Rattle.std.specs.Prelude.{◌==◌, codes, decimal, pos, int_lt, if◌then◌else◌, flat_map, bytes_eq, slice_get}
use Rattle.std.specs.List.{list_all, range_with_len}
use Rattle.std.proofs.lemmas.Bool.{and_parts}
use Rattle.std.proofs.lemmas.Bool.Decides.{nat_tests}
use Rattle.std.proofs.lemmas.Fmt.{length-decimal-le}
use Rattle.std.proofs.Math.Nat.{suc-mul}
use Rattle.std.proofs.lemmas.Nat.{mul-le}
use Rattle.std.proofs.lemmas.List.FromFn.{length-range_with_len}
use Rattle.std.proofs.lemmas.List.Sums.{sum_by-cons, sum_by-append, length-filter, count_by-le-length}
use Rattle.std.proofs.lemmas.Grind.{flat_map-append}
use Rattle.aq_base.specs.Calendar.{days_in_year, day_of_hour, hour_number, year_first}
use Rattle.aq_base.specs.Decimal.{last_digits, fixed}
use Rattle.aq_base.specs.Site.{Site}
use Rattle.aq_base.specs.declared.monitor.Pollutant.{Pollutant}
use Rattle.aq_base.specs.declared.monitor.Pollutant.TheVariants.{Ozone, Pm25, Pm10}
use Rattle.aq_base.specs.declared.monitor.Duration.{Duration}
use Rattle.aq_base.specs.declared.monitor.Duration.TheVariants.{Hour, Day}
use Rattle.aq_base.specs.declared.office.OfficeRecord.TheVariants.{Monitor, Primary, Schedule, Season}
use Rattle.aq_rules.specs.Limits.{MOST_GENERATED_SITES, MOST_GENERATED_YEARS}
use Rattle.aq_rules.specs.Lines.Spellings.{is_in_range}
use Rattle.aq_rules.specs.Lines.Reading.{is_plain, is_plain_byte}
use Rattle.aq_rules.specs.Lines.Lines.{line_count, without_mark, BYTE_ORDER_MARK}
use Rattle.aq_rules.specs.Lines.Canonical.{parameter_text, duration_text, unit_text, date_text, time_text, value_text, joined, rd_texts, office_texts}
use Rattle.aq_rules.specs.Ozone.OzoneYear.{days_of}
use Rattle.aq_rules.specs.Shown.Generator.{next_state, drawn, null_an, Drawn, observed, generated_site, generated_season, generated_years, generated_start, generated_records, record_text, office_load, Wanted, every, wanted_hour, wanted_day, wanted_in, sample_text, samples_from, FIRST_GENERATED_YEAR}
use Rattle.aq_rules.proofs.JoinedFields.{is_clean, plain-some}
use Rattle.aq_rules.proofs.KeyOrder.{length-digits}
use Rattle.aq_rules.proofs.RoundTrip.{also, site_with, clean-decimal, clean-digits, clean-date, clean-time}
use Rattle.aq_rules.proofs.Values.{value_text_is}
use Rattle.aq_simulation.specs.Generator.Sizes.{IsSmall}
use Rattle.aq_forms.proofs.Cuts.{is_end, unended, lines_are_counted}

-- ---- texts of so many lines at most

abbrev pub ends_in : List ℕ → ℕ
ends_in text = count_by is_end text

pub record HasLines (lines : ℕ) (text : List ℕ) : Type 0 where
  pub bytes : length text ≤ 64 * lines
  pub ends : ends_in text ≤ lines

none : HasLines 0 []
none = record { bytes = omega arith; ends = omega arith }

abbrev end_of : ℕ → ℕ
end_of byte = cond (is_end byte) 1 0

two : (a b : ℕ) (xs ys : List ℕ) → HasLines a xs → HasLines b ys → HasLines (a + b) (xs ++ ys)
two a b xs ys h k = record {
  bytes = omega (arith, h.bytes, k.bytes, length-append xs ys);
  ends = omega (arith, h.ends, k.ends, sum_by-append end_of xs ys);
}

more : (a b : ℕ) (text : List ℕ) → a ≤ b → HasLines a text → HasLines b text
more a b text low h = record {
  bytes = omega (arith, low, h.bytes);
  ends = omega (arith, low, h.ends);
}

not_end : (byte : ℕ) → is_plain_byte byte ≡ true → end_of byte ≡ 0
not_end byte h = grind (arith, nat_tests)

no_ends : (line : List ℕ) → is_plain line ≡ true → ends_in line ≡ 0
no_ends [] h = refl
no_ends (byte ∷ line) h =
    let parts = and_parts (is_plain_byte byte) (is_plain line) h in
    omega (arith, sum_by-cons end_of byte line, not_end byte parts.0, no_ends line parts.1)

-- the bytes of fields, each with one more after it
abbrev room : List (List ℕ) → ℕ
room [] = 0
room (text ∷ texts) = length text + 1 + room texts

joined-room : (text : List ℕ) (texts : List (List ℕ)) → length (joined (text ∷ texts)) + 1 ≡ room (text ∷ texts)
joined-room text [] = omega arith
joined-room text (next ∷ texts) = omega (arith, length-append text (124 ∷ joined (next ∷ texts)), joined-room next texts)

-- a text without a bar or an end, of so many bytes at most
record Fits (bytes : ℕ) (text : List ℕ) : Type 0 where
  clean : is_clean text ≡ true
  short : length text ≤ bytes

-- such texts, and the room of all
record AreFields (bytes : ℕ) (texts : List (List ℕ)) : Type 0 where
  clean : list_all is_clean texts ≡ true
  short : room texts ≤ bytes

last : AreFields 0 []
last = record { clean = refl; short = omega arith }

field : {m n : ℕ} {text : List ℕ} {texts : List (List ℕ)} → Fits m text → AreFields n texts → AreFields (m + 1 + n) (text ∷ texts)
field {text = text} {texts = texts} h k = record {
  clean = also text texts h.clean k.clean;
  short = omega (arith, h.short, k.short);
}

a_line : {n : ℕ} (text : List ℕ) (texts : List (List ℕ)) → AreFields n (text ∷ texts) → n ≤ 64 → HasLines 1 (joined (text ∷ texts) ++ 10 ∷ [])
a_line text texts fields few =
    let line = joined (text ∷ texts) in
    record {
      bytes = omega (arith, few, fields.short, joined-room text texts, length-append line (10 ∷ []));
      ends = omega (arith, no_ends line (plain-some text texts fields.clean), sum_by-append end_of line (10 ∷ []));
    }

-- ---- fields

literal : (text : List ℕ) → is_clean text ≡ true → Fits (length text) text
literal text clean = record { clean = clean; short = omega arith }

digits : (w n : ℕ) → Fits w (last_digits w n)
digits w n = record { clean = clean-digits w n; short = omega (arith, length-digits w n) }

digit : (n : ℕ) → n < 10 → Fits 1 (decimal n)
digit n low = record {
  clean = clean-decimal n (omega (arith, low));
  short = length-decimal-le 1 n (omega arith) (omega (arith, low)) (omega (arith, low));
}

date : (day : ℕ) → Fits 8 (date_text day)
unfolding last_digits
date day = record { clean = clean-date day; short = omega arith }

time : (hour : ℕ) → Fits 5 (time_text hour)
unfolding last_digits
time hour = record { clean = clean-time hour; short = omega arith }

parameter : (p : Pollutant) → Fits 5 (parameter_text p)
parameter Ozone = literal (parameter_text Ozone) refl
parameter Pm25 = literal (parameter_text Pm25) refl
parameter Pm10 = literal (parameter_text Pm10) refl

duration : (d : Duration) → Fits 1 (duration_text d)
duration Hour = literal (duration_text Hour) refl
duration Day = literal (duration_text Day) refl

unit : (p : Pollutant) → Fits 3 (unit_text p)
unit Ozone = literal (unit_text Ozone) refl
unit Pm25 = literal (unit_text Pm25) refl
unit Pm10 = literal (unit_text Pm10) refl

-- from the site's fields on
at_site : {n : ℕ} {rest : List (List ℕ)} (s : Site) → AreFields n rest → AreFields (2 + 1 + (3 + 1 + (4 + 1 + n))) (site_with s rest)
at_site s rest = field (digits 2 s.state) (field (digits 3 s.county) (field (digits 4 s.number) rest))

-- ---- samples

value_in_range : (p : Pollutant) (v : ℕ) → v ≤ 1599 → is_in_range p (pos v) ≡ true
value_in_range Ozone v h = grind (arith, nat_tests)
value_in_range Pm25 v h = grind (arith, nat_tests)
value_in_range Pm10 v h = grind (arith, nat_tests)

not_below : (v : ℕ) → int_lt (pos v) (pos 0) ≡ false
not_below v = grind (arith, nat_tests)

-- with so many places, and so many digits before the point
length-fixed : (v places whole : ℕ) → (places == 0) ≡ false → 0 < whole → v / 10 ^ places < 10 ^ whole → v < 2 ^ 64 → length (fixed (pos v) places) ≤ whole + 1 + places
length-fixed v places whole places_some some low small =
    let front = decimal (v / 10 ^ places) in
    let back = 46 ∷ last_digits places v in
    let is : fixed (pos v) places ≡ front ++ back = λ i. (if not_below v i then 45 ∷ [] else []) ++ front ++ (if places_some i then [] else back) in
    omega (arith, ap length is, length-append front back, length-digits places v, length-decimal-le whole (v / 10 ^ places) some low (omega (arith, small)))

value : (p : Pollutant) (v : ℕ) → v ≤ 1599 → Fits 5 (value_text p (Some (pos v)))
value p v h = record { clean = (value_text_is p (pos v) (value_in_range p v h)).clean; short = length-value p v h }
  where
    length-value : (p : Pollutant) (v : ℕ) → v ≤ 1599 → length (value_text p (Some (pos v))) ≤ 5
    length-value Ozone v h = length-fixed v 3 1 refl (omega arith) (omega (arith, h)) (omega (arith, h))
    length-value Pm25 v h = length-fixed v 1 3 refl (omega arith) (omega (arith, h)) (omega (arith, h))
    length-value Pm10 v h = length-fixed v 1 3 refl (omega arith) (omega (arith, h)) (omega (arith, h))

abbrev sample_of : Site → Pollutant → Duration → ℕ → ℕ → ℕ → Wanted
sample_of s p d hour base span =
    record { monitor = record { site = s; pollutant = p; poc = 1 }; duration = d; hour = hour; base = base; span = span }

-- a sample's line, from what it says of the value on
sample_line : {n : ℕ} {rest : List (List ℕ)} (s : Site) (p : Pollutant) (d : Duration) (hour : ℕ) → AreFields n rest → n ≤ 14
    → HasLines 1 (joined (codes "RD" ∷ codes "I" ∷ site_with s (parameter_text p ∷ decimal 1 ∷ duration_text d ∷ unit_text p ∷ last_digits 3 0 ∷ date_text (day_of_hour hour) ∷ time_text hour ∷ rest)) ++ 10 ∷ [])
sample_line s p d hour rest few =
    a_line (codes "RD") _
    (field (literal (codes "RD") refl) (field (literal (codes "I") refl) (at_site s (field (parameter p) (field (digit 1 (omega arith)) (field (duration d)
    (field (unit p) (field (digits 3 0) (field (date (day_of_hour hour)) (field (time hour) rest))))))))))
    (omega (arith, few))

null_line : (s : Site) (p : Pollutant) (d : Duration) (hour base span : ℕ)
    → HasLines 1 (sample_text (sample_of s p d hour base span) (record { value = None; null = Some null_an; quals = []; method = Some 0 }))
unfolding rd_texts
null_line s p d hour base span = sample_line s p d hour (field (literal [] refl) (field (literal (codes "AN") refl) last)) (omega arith)

value_line : (s : Site) (p : Pollutant) (d : Duration) (hour base span v : ℕ) → v ≤ 1599
    → HasLines 1 (sample_text (sample_of s p d hour base span) (record { value = Some (pos v); null = None; quals = []; method = Some 0 }))
unfolding rd_texts
value_line s p d hour base span v h = sample_line s p d hour (field (value p v h) last) (omega arith)

either : (b : Bool) (w : Wanted) (here there : Drawn) → HasLines 1 (sample_text w here.content) → HasLines 1 (sample_text w there.content)
    → HasLines 1 (sample_text w (cond b here there).content)
either true w here there h k = h
either false w here there h k = k

abbrev IsShort : Wanted → Type 0
IsShort w = (x : ℕ) → HasLines 1 (sample_text w (observed w.base w.span x).content)

short : (s : Site) (p : Pollutant) (d : Duration) (hour base span : ℕ) → 0 < span → base + span ≤ 1600 → IsShort (sample_of s p d hour base span)
short s p d hour base span some small x =
    either (drawn x 20 == 0) (sample_of s p d hour base span) _ _ (null_line s p d hour base span)
    (value_line s p d hour base span (base + drawn (next_state x) span) (below base span _ some small))
  where
    below : (base span draw : ℕ) → 0 < span → base + span ≤ 1600 → base + draw % span ≤ 1599
    below base span draw some small = grind arith

-- the samples of a list, and then others
samples-lines : (f : ℕ → Wanted) → ((k : ℕ) → IsShort (f k)) → (rest : List Wanted) (n : ℕ) → ((x : ℕ) → HasLines n (samples_from x rest))
    → (ks : List ℕ) (x : ℕ) → HasLines (length ks + n) (samples_from x (map f ks ++ rest))
unfolding samples_from
samples-lines f each rest n behind [] x = more n (0 + n) _ (omega arith) (behind x)
samples-lines f each rest n behind (k ∷ ks) x =
    let w = f k in
    let d = observed w.base w.span (next_state x) in
    more (1 + (length ks + n)) (length (k ∷ ks) + n) _ (omega arith)
    (two 1 (length ks + n) (sample_text w d.content) _ (each k (next_state x)) (samples-lines f each rest n behind ks d.state))

few_days : (b : Bool) → cond b 366 365 ≤ 366
few_days true = omega arith
few_days false = omega arith

few_of : (f : ℕ → Bool) (first n : ℕ) → length (filter f (range_with_len first n)) ≤ n
few_of f first n = omega (arith, length-filter f (range_with_len first n), count_by-le-length f (range_with_len first n), length-range_with_len first n)

no_samples : (x : ℕ) → HasLines 0 (samples_from x [])
unfolding samples_from
no_samples x = none

-- at most 24 hours of 366 days, and twice 366 days
year-lines : (n year x : ℕ) → HasLines 9516 (samples_from x (wanted_in n year))
unfolding wanted_in days_of
year-lines n year x =
    let hours = range_with_len (hour_number (year_first year) 0) (24 * days_in_year year) in
    let coarse = samples-lines (wanted_day n Pm10 100 1500) (λ day. short (generated_site n) Pm10 Day (hour_number day 0) 100 1500 (omega arith) (omega arith)) [] 0 no_samples (every 6 year) in
    let fine = samples-lines (wanted_day n Pm25 40 200) (λ day. short (generated_site n) Pm25 Day (hour_number day 0) 40 200 (omega arith) (omega arith)) (map (wanted_day n Pm10 100 1500) (every 6 year) ++ []) _ coarse (every 3 year) in
    let all = samples-lines (wanted_hour n) (λ hour. short (generated_site n) Ozone Hour hour 20 60 (omega arith) (omega arith)) _ _ fine hours x in
    let same : map (wanted_hour n) hours ++ (map (wanted_day n Pm25 40 200) (every 3 year) ++ (map (wanted_day n Pm10 100 1500) (every 6 year) ++ [])) ≡ wanted_in n year = simp (append_assoc, append-nil) in
    subst (λ ws. HasLines 9516 (samples_from x ws)) same
    (more (length hours + (length (every 3 year) + (length (every 6 year) + 0))) 9516 _
    (omega (arith, length-range_with_len (hour_number (year_first year) 0) (24 * days_in_year year), few_days (year % 4 == 0), few_of (λ day. (day - generated_start) % 3 == 0) (year_first year) (days_in_year year), few_of (λ day. (day - generated_start) % 6 == 0) (year_first year) (days_in_year year)))
    all)

-- ---- the office

record_line : {n : ℕ} {rest : List (List ℕ)} (tag : List ℕ) (s : Site) → is_clean tag ≡ true → length tag ≡ 2 → AreFields n rest → n ≤ 47
    → HasLines 1 (joined (tag ∷ codes "I" ∷ site_with s rest) ++ 10 ∷ [])
record_line tag s clean two rest few =
    a_line tag _ (field (literal tag clean) (field (literal (codes "I") refl) (at_site s rest))) (omega (arith, two, few))

monitor_line : (s : Site) (p : Pollutant) (d : Duration) → HasLines 1 (record_text (Monitor (record { site = s; pollutant = p; poc = 1 }) d true))
unfolding office_texts
monitor_line s p d =
    record_line (codes "XM") s refl refl (field (parameter p) (field (digit 1 (omega arith)) (field (duration d) (field (literal (codes "Y") refl) last)))) (omega arith)

primary_line : (s : Site) (p : Pollutant) (from : ℕ) → HasLines 1 (record_text (Primary s p from 1))
unfolding office_texts
primary_line s p from = record_line (codes "XP") s refl refl (field (parameter p) (field (date from) (field (digit 1 (omega arith)) last))) (omega arith)

schedule_line : (s : Site) (p : Pollutant) (from interval : ℕ) → interval < 10 → HasLines 1 (record_text (Schedule s p from interval from))
unfolding office_texts
schedule_line s p from interval small =
    record_line (codes "XS") s refl refl (field (parameter p) (field (date from) (field (digit interval small) (field (date from) last)))) (omega arith)

season_line : (s : Site) (year first last_day : ℕ) → HasLines 1 (record_text (Season s year first last_day))
unfolding office_texts
season_line s year first last_day = record_line (codes "XO") s refl refl (field (digits 4 year) (field (date first) (field (date last_day) last))) (omega arith)

seasons-lines : (n : ℕ) (years : List ℕ) → HasLines (length years) (flat_map record_text (map (generated_season n) years))
seasons-lines n [] = none
seasons-lines n (year ∷ years) =
    more (1 + length years) (length (year ∷ years)) _ (omega arith)
    (two 1 (length years) (record_text (generated_season n year)) _ (season_line (generated_site n) year _ _) (seasons-lines n years))

site-lines : (years n : ℕ) → HasLines (8 + years) (flat_map record_text (generated_records years n))
unfolding generated_years
site-lines years n =
    let s = generated_site n in
    more _ (8 + years) _ (omega (arith, length-range_with_len FIRST_GENERATED_YEAR years))
    (two 1 _ _ _ (monitor_line s Ozone Hour) (two 1 _ _ _ (monitor_line s Pm25 Day) (two 1 _ _ _ (monitor_line s Pm10 Day)
    (two 1 _ _ _ (primary_line s Ozone generated_start) (two 1 _ _ _ (primary_line s Pm25 generated_start) (two 1 _ _ _ (primary_line s Pm10 generated_start)
    (two 1 _ _ _ (schedule_line s Pm25 generated_start 3 (omega arith)) (two 1 _ _ _ (schedule_line s Pm10 generated_start 6 (omega arith))
    (seasons-lines n (generated_years years))))))))))

sites-lines : (years first n : ℕ) → HasLines (n * (8 + years)) (flat_map record_text (flat_map (generated_records years) (range_with_len first n)))
sites-lines years first zero = more 0 (0 * (8 + years)) [] (omega arith) none
sites-lines years first (suc n) =
    let rest = range_with_len (first + 1) n in
    subst (λ text. HasLines (suc n * (8 + years)) text) (sym (flat_map-append record_text (generated_records years first) (flat_map (generated_records years) rest)))
    (more (8 + years + n * (8 + years)) (suc n * (8 + years)) _ (omega (arith, suc-mul n (8 + years))) (two (8 + years) (n * (8 + years)) _ _ (site-lines years first) (sites-lines years (first + 1) n)))

-- ---- the lines of a body

last_line : (last : Option ℕ) → unended last ≤ 1
last_line None = omega arith
last_line (Some byte) = by_test (byte == 10)
  where
    by_test : (b : Bool) → cond b 0 1 ≤ 1
    by_test true = omega arith
    by_test false = omega arith

fewer_ends : (n : ℕ) (text : List ℕ) → ends_in (drop n text) ≤ ends_in text
fewer_ends zero text = omega arith
fewer_ends (suc n) [] = omega arith
fewer_ends (suc n) (byte ∷ text) = omega (arith, fewer_ends n text, sum_by-cons end_of byte text)

without_mark-ends : (marked : Bool) (body : List ℕ) → ends_in (cond marked (drop 3 body) body) ≤ ends_in body
without_mark-ends true body = fewer_ends 3 body
without_mark-ends false body = omega arith

lines_of-ends : (body : List ℕ) → line_count body ≤ ends_in body + 1
lines_of-ends body =
    let rest = without_mark body in
    omega (
      arith,
      lines_are_counted rest,
      last_line (slice_get rest (length rest - 1)),
      without_mark-ends (bytes_eq (take 3 body) BYTE_ORDER_MARK) body,
    )

small : (n : ℕ) (body : List ℕ) → n ≤ 9516 → HasLines n body → IsSmall body
small n body few h = record {
  bytes = omega (arith, few, h.bytes);
  lines = omega (arith, few, h.ends, lines_of-ends body);
}

pub office_small : (sites years : ℕ) (text : List ℕ) → sites ≤ MOST_GENERATED_SITES → years ≤ MOST_GENERATED_YEARS → text ≡ office_load sites years → IsSmall text
unfolding office_load
office_small sites years text few_sites few is =
    let few_lines = mul-le sites (8 + years) MOST_GENERATED_SITES (8 + MOST_GENERATED_YEARS) few_sites (omega (arith, few)) in
    subst IsSmall (sym is) (small (sites * (8 + years)) _ (omega (arith, few_lines)) (sites-lines years 1 sites))

pub samples_small : (x n year : ℕ) (text : List ℕ) → text ≡ samples_from x (wanted_in n year) → IsSmall text
samples_small x n year text is = subst IsSmall (sym is) (small 9516 _ (omega arith) (year-lines n year x))
