-- The bytes of a reply (RFC 9112, sections 2 to 6; what is in it is (own)). The phrases are those that `http` gives (RFC 9110, section 15).
use Rattle.std.specs.Prelude.{ℕ, Bool, ◌==◌, if◌then◌else◌, List, [], ◌∷◌, ◌++◌, length, codes, decimal}
use Rattle.std.specs.List.{list_any}
use Rattle.http.specs.StatusCode.{status_text}
use Rattle.aq_http.specs.declared.media.MediaType.{MediaType}
use Rattle.aq_http.specs.declared.media.MediaType.TheVariants.{Json, Csv, Plain, Html}

-- the statuses of replies
abbrev pub is_reply_status : ℕ → Bool
is_reply_status status =
    list_any (λ s. s == status) (200 ∷ 400 ∷ 403 ∷ 404 ∷ 405 ∷ 409 ∷ 411 ∷ 413 ∷ 431 ∷ 501 ∷ 503 ∷ 507 ∷ [])

-- what the body of a reply is written in (RFC 9110, section 8.3)
abbrev pub media_name : MediaType → List ℕ
media_name Json = codes "application/json"
media_name Csv = codes "text/csv"
media_name Plain = codes "text/plain"
media_name Html = codes "text/html; charset=utf-8"

-- the lines of a page's head that say what it may do: no script, nothing from elsewhere, no form, and no frame round it
abbrev pub guard_lines : MediaType → List ℕ
guard_lines Html = codes "Content-Security-Policy: default-src 'none'; style-src 'unsafe-inline'; frame-ancestors 'none'; form-action 'none'; base-uri 'none'\r\nX-Content-Type-Options: nosniff\r\n"
guard_lines Json = []
guard_lines Csv = []
guard_lines Plain = []

-- a reply: what its body is written in, the methods that a 405 allows, whether the connection ends after it, and its body
pub record Reply : Type 0 where
  pub status : ℕ
  pub media : MediaType
  pub allow : List ℕ
  pub close : Bool
  pub body : List ℕ

abbrev pub allow_line : ℕ → List ℕ → List ℕ
allow_line status allow = if status == 405 then codes "Allow: " ++ allow ++ codes "\r\n" else []

abbrev pub close_line : Bool → List ℕ
close_line close = if close then codes "Connection: close\r\n" else []

-- the status line, the headers, an empty line, and the body
unfoldable pub reply_text : Reply → List ℕ
reply_text reply =
    codes "HTTP/1.1 " ++ status_text reply.status
    ++ codes "\r\nContent-Type: " ++ media_name reply.media
    ++ codes "\r\n" ++ guard_lines reply.media
    ++ codes "Content-Length: " ++ decimal (length reply.body) ++ codes "\r\n"
    ++ allow_line reply.status reply.allow
    ++ close_line reply.close
    ++ codes "\r\n" ++ reply.body
