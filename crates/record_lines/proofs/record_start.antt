mod Asking
mod Beginning
