-- The canonical line of a value is read as that value.
use Rattle.std.proofs.Common.{◌≡◌, ℕ, suc, zero, ◌+◌, ◌/◌, ◌%◌, ◌^◌, ◌<◌, ◌≤◌, Bool, true, false, ◌&&◌, List, [], ◌∷◌, ◌++◌, Some, None, Option, refl, ap, ◌∙◌, arith, get_or}
use Rattle.std.specs.Prelude.{nat_lt, nat_le, ◌==◌, codes, decimal, if◌then◌else◌}
use Rattle.std.specs.List.{list_all}
use Rattle.std.specs.Char.{digit_value}
use Rattle.std.specs.Str.Parse.{AllDigits, digits_value}
use Rattle.std.proofs.lemmas.Fmt.{decimal_is_IsNumeral, first_decimal}
use Rattle.std.proofs.lemmas.Bool.{false≢true, and_from, and_parts}
use Rattle.std.proofs.lemmas.Bool.Decides.{nat_tests}
use Rattle.aq_base.specs.Calendar.{year_of, month_of, day_of_month, day_of_hour, hour_of_day, is_year}
use Rattle.aq_base.specs.Decimal.{last_digits, are_digits}
use Rattle.aq_base.specs.Site.{Site}
use Rattle.aq_base.specs.declared.code.Code.{Code}
use Rattle.aq_base.specs.declared.day.TheConstants.{LAST_HOUR}
use Rattle.aq_base.specs.declared.monitor.Pollutant.{Pollutant}
use Rattle.aq_base.specs.declared.monitor.Pollutant.TheVariants.{Ozone, Pm25, Pm10}
use Rattle.aq_base.specs.declared.monitor.Duration.{Duration}
use Rattle.aq_base.specs.declared.monitor.Duration.TheVariants.{Hour, Day}
use Rattle.aq_base.specs.declared.monitor.MonitorId.{MonitorId}
use Rattle.aq_base.specs.declared.office.OfficeRecord.{OfficeRecord}
use Rattle.aq_base.specs.declared.office.OfficeRecord.TheVariants.{Monitor, Primary, Schedule, Season, Makeup, Event, Concurrence, Approved, Combined}
use Rattle.aq_base.specs.declared.office.OfficeKey.{OfficeKey}
use Rattle.aq_base.specs.declared.office.OfficeKey.TheVariants.{Monitor as MonitorKey, Primary as PrimaryKey, Schedule as ScheduleKey, Season as SeasonKey, Makeup as MakeupKey, Event as EventKey, Concurrence as ConcurrenceKey, Approved as ApprovedKey, Combined as CombinedKey}
use Rattle.aq_base.specs.declared.office.OfficeLine.{OfficeLine}
use Rattle.aq_base.specs.declared.office.OfficeLine.TheVariants.{Put, Change, Drop}
use Rattle.aq_rules.specs.Lines.Fields.{field, fields}
use Rattle.aq_rules.specs.Lines.Spellings.{◌>>=◌, tag_in, Rd, Xm, Xs, Xp, Xu, Xe, Xb, is_interval, is_event_number, is_event_code, event_number_in, event_code_in, is_code_byte, has_parameter, has_duration}
use Rattle.aq_rules.specs.Lines.RdForm.{monitor_in}
use Rattle.aq_rules.specs.Lines.OfficeForms.{is_season, is_makeup, is_span, is_pair, xm_record, xp_record, xp_key, xs_record, xs_key, xo_record, xo_key, xu_record, xu_key, xe_record, xe_key, xc_record, xa_record, xa_key, xb_record, xb_key}
use Rattle.aq_rules.specs.Lines.Reading.{OfOffice, line_value, form_value}
use Rattle.aq_rules.specs.Lines.Canonical.{is_office_line, parameter_text, duration_text, date_text, time_text, truth_text, code_text, joined, office_texts, canonical_office}
use Rattle.aq_rules.specs.Office.Office.{is_site, is_poc, is_day}
use Rattle.aq_rules.proofs.Elements.{all-append}
use Rattle.aq_rules.proofs.Digits.{digits_are}
use Rattle.aq_rules.proofs.KeyOrder.{at_most_day}
use Rattle.aq_rules.proofs.JoinedFields.{is_clean, is_clean_byte, fields-some, plain-some}
use Rattle.aq_rules.proofs.Spelled.{bind-is, site_is, parameter_is, parameter_of-is, duration_is, truth_is, year_is, date_is, hour_is, poc_is, primary_is, interval_is}

pub from_texts : (text : List ℕ) (texts : List (List ℕ)) → list_all is_clean (text ∷ texts) ≡ true
    → line_value (joined (text ∷ texts)) ≡ (tag_in text >>= λ tag. form_value tag (text ∷ texts))
from_texts text texts clean =
    ap (λ b. if b then (tag_in (field 1 (fields (joined (text ∷ texts)))) >>= λ tag. form_value tag (fields (joined (text ∷ texts)))) else None)
    (plain-some text texts clean)
    ∙ ap (λ fs. tag_in (field 1 fs) >>= λ tag. form_value tag fs) (fields-some text texts clean)

-- ---- clean texts

pub clean-append : (xs ys : List ℕ) → is_clean xs ≡ true → is_clean ys ≡ true → is_clean (xs ++ ys) ≡ true
clean-append = all-append is_clean_byte

clean_digit : (n : ℕ) → is_clean_byte (48 + n % 10) ≡ true
clean_digit n = grind (arith, nat_tests)

pub clean-digits : (w n : ℕ) → is_clean (last_digits w n) ≡ true
unfolding last_digits
clean-digits zero n = refl
clean-digits (suc w) n =
    clean-append (last_digits w (n / 10)) ((48 + n % 10) ∷ []) (clean-digits w (n / 10)) (and_from _ _ (clean_digit n) refl)

clean_value : (c : ℕ) → digit_value c < 10 → is_clean_byte c ≡ true
clean_value c h = grind (arith, nat_tests)

clean-all : (ds : List ℕ) → AllDigits 10 ds → is_clean ds ≡ true
clean-all [] h = refl
clean-all (c ∷ ds) h = and_from (is_clean_byte c) (is_clean ds) (clean_value c h.0) (clean-all ds h.1)

pub clean-decimal : (n : ℕ) → n < 2 ^ 64 → is_clean (decimal n) ≡ true
clean-decimal n h = clean-all (decimal n) (decimal_is_IsNumeral n h).0.1

pub clean-parameter : (p : Pollutant) → is_clean (parameter_text p) ≡ true
clean-parameter Ozone = refl
clean-parameter Pm25 = refl
clean-parameter Pm10 = refl

pub clean-duration : (d : Duration) → is_clean (duration_text d) ≡ true
clean-duration Hour = refl
clean-duration Day = refl

clean-truth : (b : Bool) → is_clean (truth_text b) ≡ true
clean-truth true = refl
clean-truth false = refl

pub clean-date : (d : ℕ) → is_clean (date_text d) ≡ true
clean-date d =
    clean-append (last_digits 4 (year_of d) ++ last_digits 2 (month_of d)) (last_digits 2 (day_of_month d))
    (clean-append (last_digits 4 (year_of d)) (last_digits 2 (month_of d)) (clean-digits 4 (year_of d)) (clean-digits 2 (month_of d)))
    (clean-digits 2 (day_of_month d))

pub clean-time : (h : ℕ) → is_clean (time_text h) ≡ true
clean-time h = clean-append (last_digits 2 (hour_of_day h)) (codes ":00") (clean-digits 2 (hour_of_day h)) refl

-- ---- records

small_poc : (p : ℕ) → nat_le p 99 ≡ true → p < 2 ^ 64
small_poc p h = grind (arith, nat_tests)

xp_read : (tag action : List ℕ) (s : Site) (p : Pollutant) (d poc : ℕ) → is_site s ≡ true → is_day d ≡ true → nat_le poc 99 ≡ true
    → xp_record (tag ∷ action ∷ last_digits 2 s.state ∷ last_digits 3 s.county ∷ last_digits 4 s.number ∷ parameter_text p ∷ date_text d ∷ decimal poc ∷ [])
    ≡ Some (Primary s p d poc)
unfolding xp_record
xp_read tag action s p d poc h i j =
    bind-is _ (site_is s h) ∙ bind-is _ (parameter_of-is Xp p refl) ∙ bind-is _ (primary_is poc j) ∙ bind-is _ (date_is d (at_most_day d i))

-- the texts of a line, and what they are read as
round : (line : OfficeLine) (text : List ℕ) (texts : List (List ℕ)) → office_texts line ≡ text ∷ texts → list_all is_clean (text ∷ texts) ≡ true
    → (tag_in text >>= λ tag. form_value tag (text ∷ texts)) ≡ Some (OfOffice line) → line_value (canonical_office line) ≡ Some (OfOffice line)
round line text texts is clean reads = ap (λ t. line_value (joined t)) is ∙ from_texts text texts clean ∙ reads

put_is : (part : Option OfficeRecord) (r : OfficeRecord) → part ≡ Some r
    → ((part >>= λ x. Some (Put x)) >>= λ line. Some (OfOffice line)) ≡ Some (OfOffice (Put r))
put_is part r is = ap (λ q. (q >>= λ x. Some (Put x)) >>= λ line. Some (OfOffice line)) is

change_is : (part : Option OfficeRecord) (r : OfficeRecord) → part ≡ Some r
    → ((part >>= λ x. Some (Change x)) >>= λ line. Some (OfOffice line)) ≡ Some (OfOffice (Change r))
change_is part r is = ap (λ q. (q >>= λ x. Some (Change x)) >>= λ line. Some (OfOffice line)) is

drop_is : (part : Option OfficeKey) (key : OfficeKey) → part ≡ Some key
    → ((part >>= λ x. Some (Drop x)) >>= λ line. Some (OfOffice line)) ≡ Some (OfOffice (Drop key))
drop_is part key is = ap (λ q. (q >>= λ x. Some (Drop x)) >>= λ line. Some (OfOffice line)) is

abbrev pub site_with : Site → List (List ℕ) → List (List ℕ)
site_with s rest = last_digits 2 s.state ∷ last_digits 3 s.county ∷ last_digits 4 s.number ∷ rest

abbrev series_with : Site → Pollutant → ℕ → List (List ℕ) → List (List ℕ)
series_with s p d rest = site_with s (parameter_text p ∷ date_text d ∷ rest)

pub also : (text : List ℕ) (texts : List (List ℕ)) → is_clean text ≡ true → list_all is_clean texts ≡ true → list_all is_clean (text ∷ texts) ≡ true
also text texts p q = and_from (is_clean text) (list_all is_clean texts) p q

pub clean-site : (s : Site) (rest : List (List ℕ)) → list_all is_clean rest ≡ true → list_all is_clean (site_with s rest) ≡ true
clean-site s rest h =
    also (last_digits 2 s.state) (last_digits 3 s.county ∷ last_digits 4 s.number ∷ rest) (clean-digits 2 s.state)
    (also (last_digits 3 s.county) (last_digits 4 s.number ∷ rest) (clean-digits 3 s.county) (also (last_digits 4 s.number) rest (clean-digits 4 s.number) h))

clean-series : (s : Site) (p : Pollutant) (d : ℕ) (rest : List (List ℕ)) → list_all is_clean rest ≡ true → list_all is_clean (series_with s p d rest) ≡ true
clean-series s p d rest h =
    clean-site s (parameter_text p ∷ date_text d ∷ rest) (also (parameter_text p) (date_text d ∷ rest) (clean-parameter p) (also (date_text d) rest (clean-date d) h))

pub one : (text : List ℕ) → is_clean text ≡ true → list_all is_clean (text ∷ []) ≡ true
one text h = also text [] h refl

read-xp : (s : Site) (p : Pollutant) (d poc : ℕ) → is_site s ≡ true → is_day d ≡ true → nat_le poc 99 ≡ true
    → line_value (canonical_office (Put (Primary s p d poc))) ≡ Some (OfOffice (Put (Primary s p d poc)))
unfolding office_texts
read-xp s p d poc h i j =
    round (Put (Primary s p d poc)) (codes "XP") (codes "I" ∷ series_with s p d (decimal poc ∷ [])) refl
    (clean-series s p d (decimal poc ∷ []) (one (decimal poc) (clean-decimal poc (small_poc poc j))))
    (put_is _ _ (xp_read (codes "XP") (codes "I") s p d poc h i j))

xp_key_read : (tag action : List ℕ) (s : Site) (p : Pollutant) (d : ℕ) → is_site s ≡ true → is_day d ≡ true
    → xp_key (tag ∷ action ∷ series_with s p d []) ≡ Some (PrimaryKey s p d)
unfolding xp_key
xp_key_read tag action s p d h i =
    bind-is _ (site_is s h) ∙ bind-is _ (parameter_of-is Xp p refl) ∙ bind-is _ (date_is d (at_most_day d i))

read-xp_key : (s : Site) (p : Pollutant) (d : ℕ) → is_site s ≡ true → is_day d ≡ true
    → line_value (canonical_office (Drop (PrimaryKey s p d))) ≡ Some (OfOffice (Drop (PrimaryKey s p d)))
unfolding office_texts
read-xp_key s p d h i =
    round (Drop (PrimaryKey s p d)) (codes "XP") (codes "D" ∷ series_with s p d []) refl (clean-series s p d [] refl)
    (drop_is _ _ (xp_key_read (codes "XP") (codes "D") s p d h i))

-- schedules
small_interval : (days : ℕ) → is_interval days ≡ true → days < 2 ^ 64
small_interval days h =
    let few : days < 7 = grind (arith, nat_tests) in
    grind (arith, nat_tests)

xs_key_read : (tag action : List ℕ) (s : Site) (p : Pollutant) (d : ℕ) → is_site s ≡ true → has_parameter Xs p ≡ true → is_day d ≡ true
    → xs_key (tag ∷ action ∷ series_with s p d []) ≡ Some (ScheduleKey s p d)
unfolding xs_key
xs_key_read tag action s p d h i j =
    bind-is _ (site_is s h) ∙ bind-is _ (parameter_of-is Xs p i) ∙ bind-is _ (date_is d (at_most_day d j))

read-xs_key : (s : Site) (p : Pollutant) (d : ℕ) → is_site s ≡ true → has_parameter Xs p ≡ true → is_day d ≡ true
    → line_value (canonical_office (Drop (ScheduleKey s p d))) ≡ Some (OfOffice (Drop (ScheduleKey s p d)))
unfolding office_texts
read-xs_key s p d h i j =
    round (Drop (ScheduleKey s p d)) (codes "XS") (codes "D" ∷ series_with s p d []) refl (clean-series s p d [] refl)
    (drop_is _ _ (xs_key_read (codes "XS") (codes "D") s p d h i j))

xs_read : (tag action : List ℕ) (s : Site) (p : Pollutant) (d interval anchor : ℕ) → is_site s ≡ true → has_parameter Xs p ≡ true → is_day d ≡ true
    → is_interval interval ≡ true → is_day anchor ≡ true
    → xs_record (tag ∷ action ∷ series_with s p d (decimal interval ∷ date_text anchor ∷ [])) ≡ Some (Schedule s p d interval anchor)
unfolding xs_record
xs_read tag action s p d interval anchor h i j k l =
    bind-is _ (site_is s h) ∙ bind-is _ (parameter_of-is Xs p i) ∙ bind-is _ (date_is d (at_most_day d j))
    ∙ bind-is _ (date_is anchor (at_most_day anchor l)) ∙ bind-is _ (interval_is interval k)

read-xs : (s : Site) (p : Pollutant) (d interval anchor : ℕ) → is_site s ≡ true → has_parameter Xs p ≡ true → is_day d ≡ true
    → is_interval interval ≡ true → is_day anchor ≡ true
    → line_value (canonical_office (Put (Schedule s p d interval anchor))) ≡ Some (OfOffice (Put (Schedule s p d interval anchor)))
unfolding office_texts
read-xs s p d interval anchor h i j k l =
    round (Put (Schedule s p d interval anchor)) (codes "XS") (codes "I" ∷ series_with s p d (decimal interval ∷ date_text anchor ∷ [])) refl
    (clean-series s p d (decimal interval ∷ date_text anchor ∷ [])
    (also (decimal interval) (date_text anchor ∷ []) (clean-decimal interval (small_interval interval k)) (one (date_text anchor) (clean-date anchor))))
    (put_is _ _ (xs_read (codes "XS") (codes "I") s p d interval anchor h i j k l))

-- seasons
xo_read : (tag action : List ℕ) (s : Site) (year first last : ℕ) → is_site s ≡ true → is_year year ≡ true → is_day first ≡ true → is_day last ≡ true
    → is_season year first last ≡ true
    → xo_record (tag ∷ action ∷ site_with s (last_digits 4 year ∷ date_text first ∷ date_text last ∷ [])) ≡ Some (Season s year first last)
unfolding xo_record
xo_read tag action s year first last h i j k l =
    bind-is _ (site_is s h) ∙ bind-is _ (year_is year i) ∙ bind-is _ (date_is first (at_most_day first j))
    ∙ bind-is _ (date_is last (at_most_day last k)) ∙ ap (λ b. if b then Some (Season s year first last) else None) l

read-xo : (s : Site) (year first last : ℕ) → is_site s ≡ true → is_year year ≡ true → is_day first ≡ true → is_day last ≡ true
    → is_season year first last ≡ true
    → line_value (canonical_office (Put (Season s year first last))) ≡ Some (OfOffice (Put (Season s year first last)))
unfolding office_texts
read-xo s year first last h i j k l =
    round (Put (Season s year first last)) (codes "XO") (codes "I" ∷ site_with s (last_digits 4 year ∷ date_text first ∷ date_text last ∷ [])) refl
    (clean-site s (last_digits 4 year ∷ date_text first ∷ date_text last ∷ [])
    (also (last_digits 4 year) (date_text first ∷ date_text last ∷ []) (clean-digits 4 year)
    (also (date_text first) (date_text last ∷ []) (clean-date first) (one (date_text last) (clean-date last)))))
    (put_is _ _ (xo_read (codes "XO") (codes "I") s year first last h i j k l))

xo_key_read : (tag action : List ℕ) (s : Site) (year : ℕ) → is_site s ≡ true → is_year year ≡ true
    → xo_key (tag ∷ action ∷ site_with s (last_digits 4 year ∷ [])) ≡ Some (SeasonKey s year)
unfolding xo_key
xo_key_read tag action s year h i = bind-is _ (site_is s h) ∙ bind-is _ (year_is year i)

read-xo_key : (s : Site) (year : ℕ) → is_site s ≡ true → is_year year ≡ true
    → line_value (canonical_office (Drop (SeasonKey s year))) ≡ Some (OfOffice (Drop (SeasonKey s year)))
unfolding office_texts
read-xo_key s year h i =
    round (Drop (SeasonKey s year)) (codes "XO") (codes "D" ∷ site_with s (last_digits 4 year ∷ [])) refl
    (clean-site s (last_digits 4 year ∷ []) (one (last_digits 4 year) (clean-digits 4 year)))
    (drop_is _ _ (xo_key_read (codes "XO") (codes "D") s year h i))

-- make-up samples
xu_read : (tag action : List ℕ) (s : Site) (missed makeup : ℕ) → is_site s ≡ true → is_day missed ≡ true → is_day makeup ≡ true → is_makeup missed makeup ≡ true
    → xu_record (tag ∷ action ∷ series_with s Pm25 missed (date_text makeup ∷ [])) ≡ Some (Makeup s missed makeup)
unfolding xu_record
xu_read tag action s missed makeup h i j k =
    bind-is _ (site_is s h) ∙ bind-is _ (parameter_of-is Xu Pm25 refl) ∙ bind-is _ (date_is missed (at_most_day missed i))
    ∙ bind-is _ (date_is makeup (at_most_day makeup j)) ∙ ap (λ b. if b then Some (Makeup s missed makeup) else None) k

read-xu : (s : Site) (missed makeup : ℕ) → is_site s ≡ true → is_day missed ≡ true → is_day makeup ≡ true → is_makeup missed makeup ≡ true
    → line_value (canonical_office (Put (Makeup s missed makeup))) ≡ Some (OfOffice (Put (Makeup s missed makeup)))
unfolding office_texts
read-xu s missed makeup h i j k =
    round (Put (Makeup s missed makeup)) (codes "XU") (codes "I" ∷ series_with s Pm25 missed (date_text makeup ∷ [])) refl
    (clean-series s Pm25 missed (date_text makeup ∷ []) (one (date_text makeup) (clean-date makeup)))
    (put_is _ _ (xu_read (codes "XU") (codes "I") s missed makeup h i j k))

xu_key_read : (tag action : List ℕ) (s : Site) (missed : ℕ) → is_site s ≡ true → is_day missed ≡ true
    → xu_key (tag ∷ action ∷ series_with s Pm25 missed []) ≡ Some (MakeupKey s missed)
unfolding xu_key
xu_key_read tag action s missed h i =
    bind-is _ (site_is s h) ∙ bind-is _ (parameter_of-is Xu Pm25 refl) ∙ bind-is _ (date_is missed (at_most_day missed i))

read-xu_key : (s : Site) (missed : ℕ) → is_site s ≡ true → is_day missed ≡ true
    → line_value (canonical_office (Drop (MakeupKey s missed))) ≡ Some (OfOffice (Drop (MakeupKey s missed)))
unfolding office_texts
read-xu_key s missed h i =
    round (Drop (MakeupKey s missed)) (codes "XU") (codes "D" ∷ series_with s Pm25 missed []) refl (clean-series s Pm25 missed [] refl)
    (drop_is _ _ (xu_key_read (codes "XU") (codes "D") s missed h i))

-- approved days
xa_read : (tag action : List ℕ) (s : Site) (d : ℕ) → is_site s ≡ true → is_day d ≡ true
    → xa_record (tag ∷ action ∷ site_with s (date_text d ∷ [])) ≡ Some (Approved s d)
unfolding xa_record
xa_read tag action s d h i = bind-is _ (site_is s h) ∙ bind-is _ (date_is d (at_most_day d i))

read-xa : (s : Site) (d : ℕ) → is_site s ≡ true → is_day d ≡ true
    → line_value (canonical_office (Put (Approved s d))) ≡ Some (OfOffice (Put (Approved s d)))
unfolding office_texts
read-xa s d h i =
    round (Put (Approved s d)) (codes "XA") (codes "I" ∷ site_with s (date_text d ∷ [])) refl
    (clean-site s (date_text d ∷ []) (one (date_text d) (clean-date d)))
    (put_is _ _ (xa_read (codes "XA") (codes "I") s d h i))

xa_key_read : (tag action : List ℕ) (s : Site) (d : ℕ) → is_site s ≡ true → is_day d ≡ true
    → xa_key (tag ∷ action ∷ site_with s (date_text d ∷ [])) ≡ Some (ApprovedKey s d)
unfolding xa_key
xa_key_read tag action s d h i = bind-is _ (site_is s h) ∙ bind-is _ (date_is d (at_most_day d i))

read-xa_key : (s : Site) (d : ℕ) → is_site s ≡ true → is_day d ≡ true
    → line_value (canonical_office (Drop (ApprovedKey s d))) ≡ Some (OfOffice (Drop (ApprovedKey s d)))
unfolding office_texts
read-xa_key s d h i =
    round (Drop (ApprovedKey s d)) (codes "XA") (codes "D" ∷ site_with s (date_text d ∷ [])) refl
    (clean-site s (date_text d ∷ []) (one (date_text d) (clean-date d)))
    (drop_is _ _ (xa_key_read (codes "XA") (codes "D") s d h i))

-- combined sites
xb_read : (tag action : List ℕ) (s : Site) (p : Pollutant) (d : ℕ) (j : Site) → is_site s ≡ true → has_parameter Xb p ≡ true → is_day d ≡ true → is_site j ≡ true → is_pair s j ≡ true
    → xb_record (tag ∷ action ∷ series_with s p d (site_with j [])) ≡ Some (Combined s p d j)
unfolding xb_record
xb_read tag action s p d j h e i k l =
    bind-is _ (site_is s h) ∙ bind-is _ (site_is j k) ∙ bind-is _ (parameter_of-is Xb p e) ∙ bind-is _ (date_is d (at_most_day d i))
    ∙ ap (λ b. if b then Some (Combined s p d j) else None) l

read-xb : (s : Site) (p : Pollutant) (d : ℕ) (j : Site) → is_site s ≡ true → has_parameter Xb p ≡ true → is_day d ≡ true → is_site j ≡ true → is_pair s j ≡ true
    → line_value (canonical_office (Put (Combined s p d j))) ≡ Some (OfOffice (Put (Combined s p d j)))
unfolding office_texts
read-xb s p d j h e i k l =
    round (Put (Combined s p d j)) (codes "XB") (codes "I" ∷ series_with s p d (site_with j [])) refl
    (clean-series s p d (site_with j [])
    (also (last_digits 2 j.state) (last_digits 3 j.county ∷ last_digits 4 j.number ∷ []) (clean-digits 2 j.state)
    (also (last_digits 3 j.county) (last_digits 4 j.number ∷ []) (clean-digits 3 j.county) (one (last_digits 4 j.number) (clean-digits 4 j.number)))))
    (put_is _ _ (xb_read (codes "XB") (codes "I") s p d j h e i k l))

xb_key_read : (tag action : List ℕ) (s : Site) (p : Pollutant) → is_site s ≡ true → has_parameter Xb p ≡ true
    → xb_key (tag ∷ action ∷ site_with s (parameter_text p ∷ [])) ≡ Some (CombinedKey s p)
unfolding xb_key
xb_key_read tag action s p h e = bind-is _ (site_is s h) ∙ bind-is _ (parameter_of-is Xb p e)

read-xb_key : (s : Site) (p : Pollutant) → is_site s ≡ true → has_parameter Xb p ≡ true
    → line_value (canonical_office (Drop (CombinedKey s p))) ≡ Some (OfOffice (Drop (CombinedKey s p)))
unfolding office_texts
read-xb_key s p h e =
    round (Drop (CombinedKey s p)) (codes "XB") (codes "D" ∷ site_with s (parameter_text p ∷ [])) refl
    (clean-site s (parameter_text p ∷ []) (one (parameter_text p) (clean-parameter p)))
    (drop_is _ _ (xb_key_read (codes "XB") (codes "D") s p h e))

-- monitors
pub poc_short : (p : ℕ) → is_poc p ≡ true → p < 2 ^ 64
poc_short p h = small_poc p (and_parts (nat_le 1 p) (nat_le p 99) h).1

pub monitor_read : (tag action : List ℕ) (s : Site) (p : Pollutant) (poc : ℕ) (rest : List (List ℕ)) → is_site s ≡ true → is_poc poc ≡ true
    → monitor_in Rd (tag ∷ action ∷ site_with s (parameter_text p ∷ decimal poc ∷ rest)) ≡ Some (record { site = s; pollutant = p; poc = poc })
unfolding monitor_in
monitor_read tag action s p poc rest h i = bind-is _ (site_is s h) ∙ bind-is _ (parameter_is p) ∙ bind-is _ (poc_is poc i)

xm_monitor_read : (tag action : List ℕ) (s : Site) (p : Pollutant) (poc : ℕ) (rest : List (List ℕ)) → is_site s ≡ true → is_poc poc ≡ true
    → monitor_in Xm (tag ∷ action ∷ site_with s (parameter_text p ∷ decimal poc ∷ rest)) ≡ Some (record { site = s; pollutant = p; poc = poc })
unfolding monitor_in
xm_monitor_read tag action s p poc rest h i = monitor_read tag action s p poc rest h i

xm_read : (tag action : List ℕ) (id : MonitorId) (d : Duration) (eligible : Bool) → is_site id.site ≡ true → is_poc id.poc ≡ true
    → has_duration id.pollutant d ≡ true
    → xm_record (tag ∷ action ∷ site_with id.site (parameter_text id.pollutant ∷ decimal id.poc ∷ duration_text d ∷ truth_text eligible ∷ []))
    ≡ Some (Monitor id d eligible)
unfolding xm_record
xm_read tag action id d eligible h i j =
    bind-is _ (xm_monitor_read tag action id.site id.pollutant id.poc (duration_text d ∷ truth_text eligible ∷ []) h i)
    ∙ bind-is _ (duration_is id.pollutant d j) ∙ bind-is _ (truth_is eligible)

clean-xm : (id : MonitorId) (d : Duration) (eligible : Bool) → is_poc id.poc ≡ true
    → list_all is_clean (site_with id.site (parameter_text id.pollutant ∷ decimal id.poc ∷ duration_text d ∷ truth_text eligible ∷ [])) ≡ true
clean-xm id d eligible i =
    clean-site id.site (parameter_text id.pollutant ∷ decimal id.poc ∷ duration_text d ∷ truth_text eligible ∷ [])
    (also (parameter_text id.pollutant) (decimal id.poc ∷ duration_text d ∷ truth_text eligible ∷ []) (clean-parameter id.pollutant)
    (also (decimal id.poc) (duration_text d ∷ truth_text eligible ∷ []) (clean-decimal id.poc (poc_short id.poc i))
    (also (duration_text d) (truth_text eligible ∷ []) (clean-duration d) (one (truth_text eligible) (clean-truth eligible)))))

read-xm : (id : MonitorId) (d : Duration) (eligible : Bool) → is_site id.site ≡ true → is_poc id.poc ≡ true → has_duration id.pollutant d ≡ true
    → line_value (canonical_office (Put (Monitor id d eligible))) ≡ Some (OfOffice (Put (Monitor id d eligible)))
unfolding office_texts
read-xm id d eligible h i j =
    round (Put (Monitor id d eligible)) (codes "XM")
    (codes "I" ∷ site_with id.site (parameter_text id.pollutant ∷ decimal id.poc ∷ duration_text d ∷ truth_text eligible ∷ [])) refl
    (clean-xm id d eligible i) (put_is _ _ (xm_read (codes "XM") (codes "I") id d eligible h i j))

read-xm_change : (id : MonitorId) (d : Duration) (eligible : Bool) → is_site id.site ≡ true → is_poc id.poc ≡ true → has_duration id.pollutant d ≡ true
    → line_value (canonical_office (Change (Monitor id d eligible))) ≡ Some (OfOffice (Change (Monitor id d eligible)))
unfolding office_texts
read-xm_change id d eligible h i j =
    round (Change (Monitor id d eligible)) (codes "XM")
    (codes "U" ∷ site_with id.site (parameter_text id.pollutant ∷ decimal id.poc ∷ duration_text d ∷ truth_text eligible ∷ [])) refl
    (clean-xm id d eligible i) (change_is _ _ (xm_read (codes "XM") (codes "U") id d eligible h i j))

number_short : (n : ℕ) → is_event_number n ≡ true → (0 < n) × (n < 2 ^ 64)
number_short n h =
    let parts = and_parts (nat_le 1 n) (nat_le n 999999) h in
    (grind (arith, nat_tests), grind (arith, nat_tests))

at_least_one : (c : ℕ) → 48 < c → nat_le 49 c ≡ true
at_least_one c h = grind (arith, nat_tests)

event_number_is : (n : ℕ) → is_event_number n ≡ true → event_number_in (decimal n) ≡ Some n
unfolding event_number_in
event_number_is n h =
    let short = number_short n h in
    let numeral = decimal_is_IsNumeral n short.1 in
    ap (λ b. if b then Some (digits_value 10 (decimal n)) else None)
    (and_from (are_digits (decimal n) && nat_le 49 (get_or (decimal n) 0 0)) (is_event_number (digits_value 10 (decimal n)))
    (and_from (are_digits (decimal n)) (nat_le 49 (get_or (decimal n) 0 0)) (digits_are (decimal n) numeral.0.1)
    (at_least_one (get_or (decimal n) 0 0) (first_decimal n short.0 short.1)))
    (ap is_event_number numeral.1 ∙ h))
    ∙ ap Some numeral.1

record EventBytes (c : Code) : Type 0 where
  not_zero : (c.second == 0) ≡ false
  first : is_code_byte c.first ≡ true
  second : is_code_byte c.second ≡ true
  first_clean : is_clean_byte c.first ≡ true
  second_clean : is_clean_byte c.second ≡ true

event_bytes : (c : Code) → is_event_code c ≡ true → EventBytes c
event_bytes c h = record {
  not_zero = grind (arith, nat_tests);
  first = grind (arith, nat_tests);
  second = grind (arith, nat_tests);
  first_clean = grind (arith, nat_tests);
  second_clean = grind (arith, nat_tests);
}

event_code_is : (c : Code) → is_event_code c ≡ true → event_code_in (code_text c) ≡ Some c
unfolding event_code_in
event_code_is c h =
    let bytes = event_bytes c h in
    ap (λ b. event_code_in (if b then c.first ∷ [] else c.first ∷ c.second ∷ [])) bytes.not_zero
    ∙ bind-is _ (ap (λ b. if b then Some c else None) (and_from (is_code_byte c.first) (is_code_byte c.second) bytes.first bytes.second))
    ∙ ap (λ b. if b then Some c else None) h

clean-event_code : (c : Code) → is_event_code c ≡ true → is_clean (code_text c) ≡ true
clean-event_code c h =
    let bytes = event_bytes c h in
    ap (λ b. is_clean (if b then c.first ∷ [] else c.first ∷ c.second ∷ [])) bytes.not_zero
    ∙ and_from (is_clean_byte c.first) (is_clean_byte c.second && true) bytes.first_clean (and_from (is_clean_byte c.second) true bytes.second_clean refl)

abbrev event_texts : Site → Pollutant → ℕ → ℕ → Code → List (List ℕ)
event_texts s p first last code =
    site_with s (parameter_text p ∷ date_text (day_of_hour first) ∷ time_text first ∷ date_text (day_of_hour last) ∷ time_text last ∷ code_text code ∷ [])

xe_read : (tag action : List ℕ) (n : ℕ) (s : Site) (p : Pollutant) (first last : ℕ) (code : Code) → is_event_number n ≡ true → is_site s ≡ true
    → first ≤ LAST_HOUR → last ≤ LAST_HOUR → is_span first last ≡ true → is_event_code code ≡ true
    → xe_record (tag ∷ action ∷ decimal n ∷ event_texts s p first last code) ≡ Some (Event n s p first last code)
unfolding xe_record
xe_read tag action n s p first last code g h i j k l =
    bind-is _ (site_is s h) ∙ bind-is _ (parameter_of-is Xe p refl) ∙ bind-is _ (hour_is first i) ∙ bind-is _ (hour_is last j)
    ∙ bind-is _ (event_number_is n g) ∙ bind-is _ (event_code_is code l) ∙ ap (λ b. if b then Some (Event n s p first last code) else None) k

read-xe : (n : ℕ) (s : Site) (p : Pollutant) (first last : ℕ) (code : Code) → is_event_number n ≡ true → is_site s ≡ true
    → first ≤ LAST_HOUR → last ≤ LAST_HOUR → is_span first last ≡ true → is_event_code code ≡ true
    → line_value (canonical_office (Put (Event n s p first last code))) ≡ Some (OfOffice (Put (Event n s p first last code)))
unfolding office_texts
read-xe n s p first last code g h i j k l =
    round (Put (Event n s p first last code)) (codes "XE") (codes "I" ∷ decimal n ∷ event_texts s p first last code) refl
    (also (decimal n) (event_texts s p first last code) (clean-decimal n (number_short n g).1)
    (clean-site s (parameter_text p ∷ date_text (day_of_hour first) ∷ time_text first ∷ date_text (day_of_hour last) ∷ time_text last ∷ code_text code ∷ [])
    (also (parameter_text p) (date_text (day_of_hour first) ∷ time_text first ∷ date_text (day_of_hour last) ∷ time_text last ∷ code_text code ∷ []) (clean-parameter p)
    (also (date_text (day_of_hour first)) (time_text first ∷ date_text (day_of_hour last) ∷ time_text last ∷ code_text code ∷ []) (clean-date (day_of_hour first))
    (also (time_text first) (date_text (day_of_hour last) ∷ time_text last ∷ code_text code ∷ []) (clean-time first)
    (also (date_text (day_of_hour last)) (time_text last ∷ code_text code ∷ []) (clean-date (day_of_hour last))
    (also (time_text last) (code_text code ∷ []) (clean-time last) (one (code_text code) (clean-event_code code l)))))))))
    (put_is _ _ (xe_read (codes "XE") (codes "I") n s p first last code g h i j k l))

xe_key_read : (tag action : List ℕ) (n : ℕ) → is_event_number n ≡ true → xe_key (tag ∷ action ∷ decimal n ∷ []) ≡ Some (EventKey n)
unfolding xe_key
xe_key_read tag action n h = bind-is _ (event_number_is n h)

read-xe_key : (n : ℕ) → is_event_number n ≡ true → line_value (canonical_office (Drop (EventKey n))) ≡ Some (OfOffice (Drop (EventKey n)))
unfolding office_texts
read-xe_key n h =
    round (Drop (EventKey n)) (codes "XE") (codes "D" ∷ decimal n ∷ []) refl (one (decimal n) (clean-decimal n (number_short n h).1))
    (drop_is _ _ (xe_key_read (codes "XE") (codes "D") n h))

xc_read : (tag action : List ℕ) (n : ℕ) (agreed : Bool) → is_event_number n ≡ true
    → xc_record (tag ∷ action ∷ decimal n ∷ truth_text agreed ∷ []) ≡ Some (Concurrence n agreed)
unfolding xc_record
xc_read tag action n agreed h = bind-is _ (event_number_is n h) ∙ bind-is _ (truth_is agreed)

read-xc : (n : ℕ) (agreed : Bool) → is_event_number n ≡ true
    → line_value (canonical_office (Change (Concurrence n agreed))) ≡ Some (OfOffice (Change (Concurrence n agreed)))
unfolding office_texts
read-xc n agreed h =
    round (Change (Concurrence n agreed)) (codes "XC") (codes "U" ∷ decimal n ∷ truth_text agreed ∷ []) refl
    (also (decimal n) (truth_text agreed ∷ []) (clean-decimal n (number_short n h).1) (one (truth_text agreed) (clean-truth agreed)))
    (change_is _ _ (xc_read (codes "XC") (codes "U") n agreed h))

-- ---- all office lines

pub at_most_hour : (h : ℕ) → nat_le h LAST_HOUR ≡ true → h ≤ LAST_HOUR
at_most_hour h p = grind (arith, nat_tests)

span_first : (a b : ℕ) → is_span a b ≡ true → a ≤ b
span_first a b h =
    let parts = and_parts (nat_le a b) (nat_lt b (a + 8784)) h in
    grind (arith, nat_tests)

round-put : (r : OfficeRecord) → is_office_line (Put r) ≡ true → line_value (canonical_office (Put r)) ≡ Some (OfOffice (Put r))
round-put (Monitor id d eligible) h =
    let x = and_parts (is_site id.site && is_poc id.poc) (has_duration id.pollutant d) h in
    let y = and_parts (is_site id.site) (is_poc id.poc) x.0 in
    read-xm id d eligible y.0 y.1 x.1
round-put (Primary s p d poc) h =
    let x = and_parts (is_site s && is_day d) (nat_le poc 99) h in
    let y = and_parts (is_site s) (is_day d) x.0 in
    read-xp s p d poc y.0 y.1 x.1
round-put (Schedule s p d interval anchor) h =
    let x = and_parts (is_site s && has_parameter Xs p && is_day d) (is_interval interval && is_day anchor) h in
    let y = and_parts (is_site s && has_parameter Xs p) (is_day d) x.0 in
    let z = and_parts (is_site s) (has_parameter Xs p) y.0 in
    let w = and_parts (is_interval interval) (is_day anchor) x.1 in
    read-xs s p d interval anchor z.0 z.1 y.1 w.0 w.1
round-put (Season s year first last) h =
    let x = and_parts (is_site s && is_year year) (is_day first && is_day last && is_season year first last) h in
    let y = and_parts (is_site s) (is_year year) x.0 in
    let z = and_parts (is_day first && is_day last) (is_season year first last) x.1 in
    let w = and_parts (is_day first) (is_day last) z.0 in
    read-xo s year first last y.0 y.1 w.0 w.1 z.1
round-put (Makeup s missed makeup) h =
    let x = and_parts (is_site s && is_day missed) (is_day makeup && is_makeup missed makeup) h in
    let y = and_parts (is_site s) (is_day missed) x.0 in
    let z = and_parts (is_day makeup) (is_makeup missed makeup) x.1 in
    read-xu s missed makeup y.0 y.1 z.0 z.1
round-put (Event n s p first last code) h =
    let x = and_parts (is_event_number n) (is_site s && nat_le last LAST_HOUR && is_span first last && is_event_code code) h in
    let y = and_parts (is_site s && nat_le last LAST_HOUR && is_span first last) (is_event_code code) x.1 in
    let z = and_parts (is_site s && nat_le last LAST_HOUR) (is_span first last) y.0 in
    let w = and_parts (is_site s) (nat_le last LAST_HOUR) z.0 in
    let top = at_most_hour last w.1 in
    let low = span_first first last z.1 in
    read-xe n s p first last code x.0 w.0 (omega arith) top z.1 y.1
round-put (Concurrence n agreed) h = absurd (false≢true h)
round-put (Approved s d) h =
    let x = and_parts (is_site s && is_day d) true h in
    let y = and_parts (is_site s) (is_day d) x.0 in
    read-xa s d y.0 y.1
round-put (Combined s p d j) h =
    let x = and_parts (is_site s && has_parameter Xb p) (is_day d && is_site j && is_pair s j) h in
    let y = and_parts (is_site s) (has_parameter Xb p) x.0 in
    let z = and_parts (is_day d && is_site j) (is_pair s j) x.1 in
    let w = and_parts (is_day d) (is_site j) z.0 in
    read-xb s p d j y.0 y.1 w.0 w.1 z.1

pub round-office : (line : OfficeLine) → is_office_line line ≡ true → line_value (canonical_office line) ≡ Some (OfOffice line)
round-office (Put r) h = round-put r h
round-office (Change (Monitor id d eligible)) h =
    let x = and_parts (is_site id.site && is_poc id.poc) (has_duration id.pollutant d) h in
    let y = and_parts (is_site id.site) (is_poc id.poc) x.0 in
    read-xm_change id d eligible y.0 y.1 x.1
round-office (Change (Concurrence n agreed)) h = read-xc n agreed (and_parts (is_event_number n) true h).0
round-office (Change r) h = absurd (false≢true h)
round-office (Drop (MonitorKey id)) h = absurd (false≢true h)
round-office (Drop (PrimaryKey s p d)) h =
    let x = and_parts (is_site s) (is_day d) h in
    read-xp_key s p d x.0 x.1
round-office (Drop (ScheduleKey s p d)) h =
    let y = and_parts (is_site s && has_parameter Xs p) (is_day d) h in
    let z = and_parts (is_site s) (has_parameter Xs p) y.0 in
    read-xs_key s p d z.0 z.1 y.1
round-office (Drop (SeasonKey s year)) h =
    let x = and_parts (is_site s) (is_year year) h in
    read-xo_key s year x.0 x.1
round-office (Drop (MakeupKey s missed)) h =
    let x = and_parts (is_site s) (is_day missed) h in
    read-xu_key s missed x.0 x.1
round-office (Drop (EventKey n)) h = read-xe_key n h
round-office (Drop (ConcurrenceKey n)) h = absurd (false≢true h)
round-office (Drop (ApprovedKey s d)) h =
    let x = and_parts (is_site s) (is_day d) h in
    read-xa_key s d x.0 x.1
round-office (Drop (CombinedKey s p)) h =
    let x = and_parts (is_site s) (has_parameter Xb p) h in
    read-xb_key s p x.0 x.1
